-- Words that are no names.
use Rattle.std.specs.Prelude.{ℕ, Bool, ◌||◌, List, codes}
use Rattle.std.specs.Str.{bytes_eq}

-- the words that the grammar quotes, up to `return`
abbrev pub is_quoted_word : List ℕ → Bool
is_quoted_word x = bytes_eq x (codes "const") || bytes_eq x (codes "let") || bytes_eq x (codes "export") || bytes_eq x (codes "if") || bytes_eq x (codes "else") || bytes_eq x (codes "while") || bytes_eq x (codes "for") || bytes_eq x (codes "of") || bytes_eq x (codes "return")

-- the words that the grammar quotes, from `throw` on
abbrev pub is_late_quoted_word : List ℕ → Bool
is_late_quoted_word x = bytes_eq x (codes "throw") || bytes_eq x (codes "try") || bytes_eq x (codes "catch") || bytes_eq x (codes "E") || bytes_eq x (codes "AmountMath") || bytes_eq x (codes "true") || bytes_eq x (codes "false") || bytes_eq x (codes "null")

-- the built-in functions
abbrev pub is_built_in : List ℕ → Bool
is_built_in x = bytes_eq x (codes "when") || bytes_eq x (codes "Far") || bytes_eq x (codes "harden") || bytes_eq x (codes "keys") || bytes_eq x (codes "len") || bytes_eq x (codes "push") || bytes_eq x (codes "put")

-- words of JavaScript, from `async` to `default`
abbrev pub is_first_word : List ℕ → Bool
is_first_word x = bytes_eq x (codes "async") || bytes_eq x (codes "await") || bytes_eq x (codes "break") || bytes_eq x (codes "case") || bytes_eq x (codes "class") || bytes_eq x (codes "continue") || bytes_eq x (codes "debugger") || bytes_eq x (codes "default")

-- words of JavaScript, from `delete` to `import`
abbrev pub is_second_word : List ℕ → Bool
is_second_word x = bytes_eq x (codes "delete") || bytes_eq x (codes "do") || bytes_eq x (codes "enum") || bytes_eq x (codes "extends") || bytes_eq x (codes "finally") || bytes_eq x (codes "function") || bytes_eq x (codes "import")

-- words of JavaScript, from `in` to `typeof`
abbrev pub is_third_word : List ℕ → Bool
is_third_word x = bytes_eq x (codes "in") || bytes_eq x (codes "instanceof") || bytes_eq x (codes "new") || bytes_eq x (codes "super") || bytes_eq x (codes "switch") || bytes_eq x (codes "this") || bytes_eq x (codes "typeof")

-- words of JavaScript, from `undefined` on
abbrev pub is_fourth_word : List ℕ → Bool
is_fourth_word x = bytes_eq x (codes "undefined") || bytes_eq x (codes "var") || bytes_eq x (codes "void") || bytes_eq x (codes "with") || bytes_eq x (codes "yield") || bytes_eq x (codes "NaN") || bytes_eq x (codes "Infinity")

abbrev pub is_reserved : List ℕ → Bool
is_reserved x = is_quoted_word x || is_late_quoted_word x || is_built_in x || is_first_word x || is_second_word x || is_third_word x || is_fourth_word x

-- The lines of a demonstration: two parties swap, step by step, for amounts that are drawn from a number.
use Rattle.std.specs.Prelude.{ℕ, zero, suc, ◌+◌, ◌*◌, ◌/◌, ◌%◌, ◌^◌, List, [], ◌∷◌, ◌++◌, codes, decimal}
use Rattle.std.specs.List.{flat_map}
use Rattle.serde_json.specs.Data as json
use Rattle.turn_rows.specs.Rows.{only}
use Rattle.turn_rows.specs.Texts.{row_text}
use Rattle.sample_contracts.specs.Samples.{swap_text}

-- ---- drawing

-- the next number of the sequence, once a step
abbrev pub next_number : ℕ → ℕ
next_number x = (x * 6364136223846793005 + 1442695040888963407) % 2 ^ 64

-- how much is given and wanted by the one, and offered by the other
pub record Draw : Type 0 where
  pub gives : ℕ
  pub wants : ℕ
  pub pays : ℕ

abbrev pub drawn_by : ℕ → Draw
drawn_by u = record { gives = 1 + u % 9; wants = 1 + u / 16 % 9; pays = 1 + u / 256 % 9 }

-- from the upper half of the number
abbrev pub drawn : ℕ → Draw
drawn x = drawn_by (x / 2 ^ 32)

-- ---- parts of lines

-- `k0`, `t12`: a label of a step
abbrev pub numbered : List ℕ → ℕ → List ℕ
numbered word step = word ++ decimal step

abbrev pub object : List ℕ → json.Data
object path = only (codes "@") (json.string path)

abbrev pub pair : List ℕ → json.Data → List ℕ → json.Data → json.Data
pair a x b y = json.object (json.member a x (json.member b y json.no_members))

-- so much of a brand
abbrev pub amount : List ℕ → ℕ → json.Data
amount brand n = pair (codes "brand") (object brand) (codes "value") (json.number (json.unsigned n))

-- ---- lines

-- a call whose answer gets a label
abbrev pub call : List ℕ → List ℕ → List ℕ → json.Data → List ℕ → json.Data
call by on method arguments label =
    json.object (json.member (codes "args") arguments (json.member (codes "as") (json.string label) (json.member (codes "by") (json.string by)
    (json.member (codes "do") (json.string method) (json.member (codes "on") (json.string on) json.no_members)))))

-- one without arguments
abbrev pub question : List ℕ → List ℕ → List ℕ → List ℕ → json.Data
question by on method label =
    json.object (json.member (codes "as") (json.string label) (json.member (codes "by") (json.string by)
    (json.member (codes "do") (json.string method) (json.member (codes "on") (json.string on) json.no_members))))

-- the first party gives the second what stands there
abbrev pub gift : List ℕ → List ℕ → json.Data
gift what label =
    json.object (json.member (codes "as") (json.string label) (json.member (codes "by") (json.string (codes "a"))
    (json.member (codes "give") (json.string what) (json.member (codes "to") (json.string (codes "b")) json.no_members))))

abbrev pub run : json.Data
run = only (codes "run") (json.number (json.unsigned 100))

-- a list of one
abbrev pub one : json.Data → json.Data
one d = json.array (json.item d json.no_items)

-- ---- before the steps

abbrev pub kit : List ℕ → List ℕ → json.Data
kit name label = call (codes "a") (codes "ertp") (codes "makeIssuerKit") (one (json.string name)) label

-- two brands are made, the contract is installed, and the second party gets both brands
abbrev pub setup : List json.Data
setup =
    kit (codes "moola") (codes "m") ∷ kit (codes "simoleans") (codes "s")
    ∷ call (codes "a") (codes "zoe") (codes "install") (one (json.string swap_text)) (codes "swap")
    ∷ gift (codes "m") (codes "m") ∷ gift (codes "s") (codes "s") ∷ []

-- ---- a step

-- an instance of the contract begins
abbrev pub start : ℕ → json.Data
start i =
    call (codes "a") (codes "zoe") (codes "startInstance")
    (json.array (json.item (object (codes "swap")) (json.item (pair (codes "Asset") (object (codes "m.issuer")) (codes "Price") (object (codes "s.issuer"))) json.no_items)))
    (numbered (codes "k") i)

-- the first party mints what it gives, the second what it pays
abbrev pub first_mint : ℕ → Draw → json.Data
first_mint i d = call (codes "a") (codes "m.mint") (codes "mintPayment") (one (amount (codes "m.brand") d.gives)) (numbered (codes "p") i)

abbrev pub second_mint : ℕ → Draw → json.Data
second_mint i d = call (codes "b") (codes "s.mint") (codes "mintPayment") (one (amount (codes "s.brand") d.pays)) (numbered (codes "q") i)

-- what is offered or wanted: so much of a brand, under a keyword
pub record Side : Type 0 where
  pub keyword : List ℕ
  pub brand : List ℕ
  pub number : ℕ

abbrev pub side : Side → json.Data
side s = only s.keyword (amount s.brand s.number)

abbrev pub asset : ℕ → Side
asset n = record { keyword = codes "Asset"; brand = codes "m.brand"; number = n }

abbrev pub price : ℕ → Side
price n = record { keyword = codes "Price"; brand = codes "s.brand"; number = n }

-- an invitation, what is given for it and wanted, and a payment of what is given
abbrev pub terms : List ℕ → Side → Side → List ℕ → json.Data
terms invitation give want payment =
    json.array (json.item (object invitation) (json.item (pair (codes "give") (side give) (codes "want") (side want))
    (json.item (only give.keyword (object payment)) json.no_items)))

abbrev pub offer : List ℕ → List ℕ → Side → Side → List ℕ → List ℕ → json.Data
offer by invitation give want payment label = call by (codes "zoe") (codes "offer") (terms invitation give want payment) label

abbrev pub first_offer : ℕ → Draw → json.Data
first_offer i d = offer (codes "a") (codes "k" ++ decimal i ++ codes ".creatorInvitation") (asset d.gives) (price d.wants) (numbered (codes "p") i) (numbered (codes "t") i)

abbrev pub second_offer : ℕ → Draw → json.Data
second_offer i d = offer (codes "b") (numbered (codes "v") i) (price d.pays) (asset d.gives) (numbered (codes "q") i) (numbered (codes "u") i)

-- the first party asks for what came of its offer, which is an invitation for the second
abbrev pub result_question : ℕ → json.Data
result_question i = question (codes "a") (numbered (codes "t") i) (codes "getOfferResult") (numbered (codes "r") i)

-- it gives that to the second
abbrev pub invitation_gift : ℕ → json.Data
invitation_gift i = gift (numbered (codes "r") i) (numbered (codes "v") i)

-- the first party starts an instance and makes the first offer
abbrev pub opening_lines : ℕ → Draw → List json.Data
opening_lines i d =
    start i ∷ run ∷ first_mint i d
    ∷ first_offer i d
    ∷ result_question i ∷ run ∷ []

-- `tryExit`, whose answer gets no label
abbrev pub exit : ℕ → json.Data
exit i =
    json.object (json.member (codes "by") (json.string (codes "a")) (json.member (codes "do") (json.string (codes "tryExit"))
    (json.member (codes "on") (json.string (numbered (codes "t") i)) json.no_members)))

-- the second party gets the invitation and makes the second offer; then the first one asks to exit
abbrev pub answering_lines : ℕ → Draw → List json.Data
answering_lines i d =
    invitation_gift i ∷ second_mint i d
    ∷ second_offer i d ∷ run ∷ exit i ∷ run ∷ []

abbrev pub step_lines : ℕ → Draw → List json.Data
step_lines i d = opening_lines i d ++ answering_lines i d

-- so many steps, from one on, with the number before it
abbrev pub steps_from : ℕ → ℕ → ℕ → List json.Data
steps_from x i zero = []
steps_from x i (suc n) = step_lines i (drawn (next_number x)) ++ steps_from (next_number x) (i + 1) n

abbrev pub lines_text : List json.Data → List ℕ
lines_text = flat_map row_text

-- the lines of a demonstration, each compact and with its line feed
abbrev pub demo_text : ℕ → ℕ → List ℕ
demo_text seed size = lines_text (setup ++ steps_from seed 0 size)

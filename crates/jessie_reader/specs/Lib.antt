pub use Rattle.jessie_grammar.specs.host_text

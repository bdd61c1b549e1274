-- Rows of worked examples, and their texts.
use Rattle.std.specs.Prelude.{◌≡◌, [], ◌∷◌, codes, map}
use Rattle.rights_model.specs.declared.Holder.TheVariants.{Payment, Purse, Slot}
use Rattle.rights_model.specs.declared.Sum.{Sum}
use Rattle.serde_json.specs.Data as json
use Rattle.serde_json.specs.Written.{compact_text}
use Rattle.turn_rows.specs.Causes as causes
use Rattle.turn_rows.specs.Kinds as kinds
use Rattle.turn_rows.specs.Editions.{version_rows}
use Rattle.turn_rows.specs.Rows.{amount_json, event_row, only, sum_row, turn_row}
use Rattle.turn_rows.specs.Texts.{journal_text}
use Rattle.turn_rows.specs.Turns.{called, counted, elements, key, exited, moved, number, ok, on_demand, opened, settled, fulfilled, Turn}
use Rattle.turn_rows.specs.declared.editions.Edition.TheVariants.{First, Second}

-- alice deposits payment0
abbrev pub deposit : Turn
deposit = record {
  number = 4;
  kind = kinds.service;
  by = codes "alice";
  on = codes "purse0";
  method = codes "deposit";
  arguments = json.item (only (codes "@") (json.string (codes "payment0"))) json.no_items;
  answer = ok (amount_json 1 (number 100));
  events = moved (record { brand = 1; from = Payment 0; to = Purse 0; value = number 100 }) ∷ [];
  sums = [];
}

abbrev pub deposit_sum : Sum
deposit_sum = record { brand = 1; minted = 110; burned = 10; purses = 100; payments = 0; slots = 0 }

pub record WorkedTexts : Type 0 where
  pub turn : compact_text (turn_row deposit) ≡ codes "{\"answer\":{\"ok\":{\"brand\":{\"@\":\"brand1\"},\"value\":100}},\"args\":[{\"@\":\"payment0\"}],\"by\":\"alice\",\"do\":\"deposit\",\"kind\":\"service\",\"n\":4,\"on\":\"purse0\",\"row\":\"turn\"}"
  pub move : compact_text (event_row (moved (record { brand = 1; from = Payment 0; to = Purse 0; value = number 100 }))) ≡ codes "{\"brand\":\"brand1\",\"from\":\"payment0\",\"row\":\"move\",\"to\":\"purse0\",\"value\":100}"
  pub sum : compact_text (sum_row First deposit_sum) ≡ codes "{\"brand\":\"brand1\",\"burned\":\"10\",\"minted\":\"110\",\"payments\":\"0\",\"purses\":\"100\",\"row\":\"sum\",\"slots\":\"0\"}"
  pub supply : compact_text (sum_row Second deposit_sum) ≡ codes "{\"brand\":\"brand1\",\"burned\":\"10\",\"minted\":\"110\",\"payments\":\"0\",\"purses\":\"100\",\"row\":\"sum\",\"slots\":\"0\",\"supply\":\"100\"}"
  pub version : map compact_text (version_rows Second) ≡ codes "{\"row\":\"version\",\"version\":2}" ∷ []
  pub no_version : version_rows First ≡ []
  pub no_turn : journal_text Second [] 6 ≡ codes "{\"row\":\"version\",\"version\":2}\n{\"left\":6,\"row\":\"close\",\"turns\":0}\n"
  pub call : compact_text (event_row (called (record { how = kinds.calls; on = codes "zseat1"; method = codes "exit"; arguments = json.no_items; answer = ok json.null }))) ≡ codes "{\"answer\":{\"ok\":null},\"args\":[],\"do\":\"exit\",\"how\":\"call\",\"on\":\"zseat1\",\"row\":\"call\"}"
  pub exit : compact_text (event_row (exited (record { seat = 1; cause = causes.spent; payouts = record { keyword = codes "Price"; payment = 9 } ∷ [] }))) ≡ codes "{\"cause\":\"spent\",\"payouts\":{\"Price\":\"payment9\"},\"row\":\"exit\",\"seat\":1}"
  pub bag : compact_text (event_row (moved (record { brand = 2; from = Slot 4 (codes "Price"); to = Payment 3; value = elements (counted (codes "a") 2 ∷ key (codes "b") ∷ []) }))) ≡ codes "{\"brand\":\"brand2\",\"from\":\"seat4.Price\",\"row\":\"move\",\"to\":\"payment3\",\"value\":[[\"a\",2],\"b\"]}"
  pub empty : compact_text (event_row (opened (record { seat = 0; instance = 2; give = []; want = record { keyword = codes "Price"; brand = 1; value = elements [] } ∷ []; exit = on_demand }))) ≡ codes "{\"exit\":\"onDemand\",\"give\":{},\"instance\":\"instance2\",\"row\":\"open\",\"seat\":0,\"want\":{\"Price\":{\"brand\":{\"@\":\"brand1\"},\"value\":[]}}}"
  pub settle : compact_text (event_row (settled 3 (fulfilled json.null))) ≡ codes "{\"promise\":3,\"row\":\"settle\",\"to\":{\"ok\":null}}"

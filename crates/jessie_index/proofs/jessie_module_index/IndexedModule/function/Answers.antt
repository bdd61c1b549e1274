use Rattle.std.proofs.Common.{◌∙◌, ap, sym}
use Rattle.jessie_index.proofs.Indexing.{found_at, not_found}
use Rattle.jessie_index.proofs.jessie_module_index.IndexedModule.function.Goals as goal

pub returns-in_err-place : goal.returns-in_err-place
returns-in_err-place c = not_found c.args.name.now c.args.self.now.functions c.from_residual.result (sym (c.in_err-place.was) ∙ c.place.ensures) c.from_residual.ensures

pub returns : goal.returns
returns c = found_at c.args.name.now c.args.self.now.functions c.as_slice.result.now c.in_ok-place.place c.function_at.result (sym (c.in_ok-place.was) ∙ c.place.ensures) (c.as_slice.ensures ∙ ap (λ m. m.functions) c.self.view_is) c.function_at.ensures

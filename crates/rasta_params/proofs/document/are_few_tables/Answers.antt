use Rattle.std.proofs.Common.{◌≡◌, ◌∙◌, Bool, false, ◌&&◌, is_some, length, nat_le, ap, refl, sym}
use Rattle.std.specs.List.{list_all}
use Rattle.toml.specs.Data.{as_table}
use Rattle.toml.specs.View.{view}
use Rattle.rasta_params.proofs.Documents.{are_few_tables-items_view}
use Rattle.rasta_params.proofs.document.are_few_tables.Goals as goal

pub returns-then-are_few-clause-value : goal.returns-then-are_few-clause-value
returns-then-are_few-clause-value c =
    ap (λ (few : Bool). few && c.are_all_tables.result) (sym c.if-are_few.true ∙ c.are_few.ensures)
    ∙ are_few_tables-items_view c.args.values.now c.are_all_tables.result c.are_all_tables.ensures

pub returns-else-are_few-clause-value : goal.returns-else-are_few-clause-value
returns-else-are_few-clause-value c =
    let tables = list_all (λ v. is_some (as_table (view v))) c.args.values.now in
    let few : (nat_le 1 (length c.args.values.now) && nat_le (length c.args.values.now) 4) ≡ false = sym c.are_few.ensures ∙ c.if-are_few.false in
    c.if-are_few.false ∙ sym (ap (λ (b : Bool). b && tables) few) ∙ are_few_tables-items_view c.args.values.now tables refl

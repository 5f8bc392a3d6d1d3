use Rattle.std.proofs.Common.{Some, sym, ap, ◌∙◌}
use Rattle.serde_json.specs.View.{members_view}
use Rattle.fb_reading.proofs.Readings.{no-object, no-sort, sorted}
use Rattle.fb_reading.proofs.read.read_json.Goals as goal

pub returns-in_default-clause-refused : goal.returns-in_default-clause-refused
returns-in_default-clause-refused c = no-sort _ (sym c.in_default.is ∙ c.sort_of.ensures)

pub returns-in_default-as_object-clause-refused : goal.returns-in_default-as_object-clause-refused
returns-in_default-as_object-clause-refused c = no-object _ c.in-Some.sort (sym c.in-Some.is ∙ c.sort_of.ensures) c.in_default-as_object.ensures

pub returns-clause-refused : goal.returns-clause-refused
returns-clause-refused c =
    sorted _ _ _ _ (sym c.in-Some.is ∙ c.sort_of.ensures) (ap (λ es. Some (members_view es)) c.iter.ensures.rest ∙ c.in-Some-as_object.ensures) c.read_sort.ensures.refused

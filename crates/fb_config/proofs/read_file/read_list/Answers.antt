use Rattle.std.proofs.Common.{subst}
use Rattle.toml.specs.View.{view}
use Rattle.fb_config.specs.FaultFiles.{ListsAs}
use Rattle.fb_config.proofs.Reading.{list_of_array}
use Rattle.fb_config.proofs.read_file.read_list.Goals as goal

pub returns-in-Some-as_array-clause-list : goal.returns-in-Some-as_array-clause-list
returns-in-Some-as_array-clause-list c =
    rw c.in-Some.is
    (subst (ListsAs c.not_too_many.result)
    (list_of_array (view c.in-Some.value.now) c.in-Some-as_array.items.now.items c.as_slice.result.now c.as_slice.ensures.value c.in-Some-as_array.ensures)
    c.not_too_many.ensures)

use Rattle.std.proofs.Common.{rules}
use Rattle.fb_files.proofs.HeldFiles.{extended, is_held, not_held}
use Rattle.fb_files.proofs.memory_files.add_bytes.Goals as goal

pub returns-clause-grows : goal.returns-clause-grows
returns-clause-grows c =
    extended c.args.files.now.items c.args.name.now c.in-Some.place (search rules) c.index_mut.result.now c.extend_from_slice.new.self _ c.index_mut.ensures.value (search rules)

pub returns-clause-held : goal.returns-clause-held
returns-clause-held c =
    is_held c.args.files.now.items c.args.name.now c.in-Some.place (search rules) c.index_mut.result.now c.extend_from_slice.new.self c.index_mut.ensures.value

pub unreachable-requires : goal.unreachable-requires
unreachable-requires c = not_held c.args.files.now.items c.args.name.now (search rules) c.requires

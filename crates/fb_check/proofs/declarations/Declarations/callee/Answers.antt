use Rattle.std.proofs.Common.{sym, ◌∙◌}
use Rattle.fb_check.specs.Declarations.{is_method}
use Rattle.fb_check.proofs.Lookups.{find-position_from, find-position_from-none}
use Rattle.fb_check.proofs.declarations.Declarations.callee.Goals as goal

pub returns-in-Some : goal.returns-in-Some
returns-in-Some c =
    c.get.ensures ∙ sym (find-position_from (is_method c.args.service.now c.args.method.now) c.in-Some.number c.args.self.now.methods (sym c.in-Some.ensures))

pub returns-in-None : goal.returns-in-None
returns-in-None c = sym (find-position_from-none (is_method c.args.service.now c.args.method.now) 0 c.args.self.now.methods (sym c.in-None.ensures))

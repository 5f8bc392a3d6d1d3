use Rattle.std.proofs.Common.{◌≡◌, ◌≢◌, ℕ, Option, codes, sym, subst, ne_eqb}
use Rattle.std.proofs.lemmas.Result.{on_ok_weaker}
use Rattle.serde.specs.Event.{Log}
use Rattle.serde_json.specs.Data.{string}
use Rattle.fb_base.specs.declared.reply.Reply.{Reply}
use Rattle.fb_report.specs.Sending.{SendsMember}
use Rattle.fb_report.specs.Trees.{code_of, fault_key, fault_tree, optional_tree, reply_tree}
use Rattle.fb_report.proofs.send_line.send_fault.Goals as goal

in-two : (version : ℕ) (reply : Option Reply) (old new : Log) → version ≡ 2 → SendsMember (codes "fault") (optional_tree reply_tree reply) old new
    → SendsMember (fault_key version) (fault_tree version reply) old new
in-two version reply old new is sends = subst (λ v. SendsMember (fault_key v) (fault_tree v reply) old new) (sym is) sends

in-other : (version : ℕ) (reply : Option Reply) (old new : Log) → version ≢ 2 → SendsMember (codes "code") (optional_tree string (code_of reply)) old new
    → SendsMember (fault_key version) (fault_tree version reply) old new
in-other version reply old new other sends = rw (ne_eqb version 2 other) sends

pub returns-then-version-eq2 : goal.returns-then-version-eq2
returns-then-version-eq2 g c =
    let w = g.S.Serializer.written in
    on_ok_weaker c.send_reply.result (λ e. in-two _ _ _ _ c.if-version-eq2.true (w c.key.new.self, c.in_ok-key.ensures, e)) c.send_reply.ensures

pub returns : goal.returns
returns g c =
    let w = g.S.Serializer.written in
    on_ok_weaker c.send_code.result (λ e. in-other _ _ _ _ c.if-version-eq2.false (w c.key-2.new.self, c.in_ok-key-2.ensures, e)) c.send_code.ensures

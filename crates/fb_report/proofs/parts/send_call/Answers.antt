use Rattle.std.proofs.Common.{subst}
use Rattle.serde_json.specs.Events.{SendsValue}
use Rattle.fb_report.specs.Trees.{number_tree}
use Rattle.std.proofs.lemmas.Result.{on_ok_weaker}
use Rattle.fb_report.proofs.parts.send_call.Goals as goal

pub returns : goal.returns
returns g c =
    let w = g.S.Serializer.written in
    on_ok_weaker c.end_map.result (λ e. (
      w c.begin_map.new.self,
      c.in_ok-begin_map.ensures,
      (
        c.in_ok-send_member.ensures.0,
        w c.send_member.new.out,
        c.in_ok-send_member.ensures.1,
        c.in_ok-send_member.ensures.2,
        (
          c.in_ok-send_member-2.ensures.0,
          w c.send_member-2.new.out,
          c.in_ok-send_member-2.ensures.1,
          c.in_ok-send_member-2.ensures.2,
          (
            c.in_ok-send_member-3.ensures.0,
            w c.send_member-3.new.out,
            c.in_ok-send_member-3.ensures.1,
            subst (λ n. SendsValue (number_tree n) c.in_ok-send_member-3.ensures.0 (w c.send_member-3.new.out)) c.count_of-count.ensures c.in_ok-send_member-3.ensures.2,
            (
              c.in_ok-send_member-4.ensures.0,
              w c.send_member-4.new.out,
              c.in_ok-send_member-4.ensures.1,
              c.in_ok-send_member-4.ensures.2,
              (
                c.in_ok-send_member-5.ensures.0,
                w c.send_member-5.new.out,
                c.in_ok-send_member-5.ensures.1,
                subst (λ n. SendsValue (number_tree n) c.in_ok-send_member-5.ensures.0 (w c.send_member-5.new.out)) c.site_of-site.ensures c.in_ok-send_member-5.ensures.2,
                e,
              ),
            ),
          ),
        ),
      ),
    )) c.end_map.ensures

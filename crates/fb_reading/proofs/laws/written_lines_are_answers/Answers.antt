use Rattle.std.proofs.Common.{◌≡◌, ◌∷◌, [], Some, sym, ap, ◌∙◌}
use Rattle.std.proofs.lemmas.List.{append_cancel_right}
use Rattle.serde_json.specs.Read.{read}
use Rattle.fb_report.specs.Bytes.{line_text}
use Rattle.fb_report.specs.Trees.{line_tree}
use Rattle.fb_reading.proofs.ToldLines.{line-told}
use Rattle.fb_reading.proofs.Utf8.{line-utf8}
use Rattle.fb_reading.proofs.laws.written_lines_are_answers.Goals as goal

pub returns-clause-read_again : goal.returns-clause-read_again
returns-clause-read_again c line is = (is, (line-utf8 line is.0, c.written_lines_are_read_again.ensures line is.0))

pub returns-clause-told : goal.returns-clause-told
returns-clause-told c a b p q same =
    let trees : Some (line_tree a) ≡ Some (line_tree b) = sym (c.written_lines_are_read_again.ensures a p.0) ∙ ap read (append_cancel_right (line_text a) (line_text b) (10 ∷ []) same) ∙ c.written_lines_are_read_again.ensures b q.0 in
    let told : line_tree a ≡ line_tree b = cc in
    line-told c.index_of_text.ensures c.plan_of_text.ensures a b p q told

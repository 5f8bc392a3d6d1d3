use Rattle.fb_explore.proofs.Puts.{put_one}
use Rattle.fb_explore.proofs.put_line.put_line.Goals as goal

pub returns-clause-put : goal.returns-clause-put
returns-clause-put g c =
    put_one c.args.line c.put.result (g.W.Lines.written c.args.lines.now) (g.W.Lines.written c.put.new.self) (g.W.Lines.faults c.args.lines.now) (g.W.Lines.faults c.put.new.self)
    c.proper.ensures c.put.ensures.content c.put.ensures.cause c.put.ensures.count

use Rattle.transmission.specs.Courses.{told}
use Rattle.transmission.proofs.run.tell_totals.Goals as goal

pub loop-stream-preserved : goal.loop-stream-preserved
loop-stream-preserved g c = λ start frames before. told c.total.result (c.loop-stream.invariant start frames before) c.in_ok-tell.ensures

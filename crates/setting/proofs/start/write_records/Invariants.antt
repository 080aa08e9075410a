-- The first i records are written.
use Rattle.setting.specs.Starts.{RecordsWritten}
use Rattle.setting.proofs.start.write_records.Given as goal

abbrev pub invariant-loop-i : goal.invariant-loop-i
invariant-loop-i l = RecordsWritten l.n l.size l.i l.initial.out l.out

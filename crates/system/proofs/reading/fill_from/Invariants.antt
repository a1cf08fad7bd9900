use Rattle.std.proofs.Common.{length, ◌≤◌, take, ◌≡◌}
use Rattle.std.specs.Io.KnownBytes.{Consumes}
use Rattle.system.proofs.reading.fill_from.Given as goal

abbrev pub invariant-loop : goal.invariant-loop
invariant-loop g l = record {
  within : l.len ≤ length l.buf;
  room : length l.buf ≡ length l.fn.buf;
  came : Consumes (g.R.Read.remaining l.fn.reader) (g.R.Read.remaining l.reader) (take l.len l.buf);
}

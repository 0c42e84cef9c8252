-- A count, and that many bytes of at most so much. The loop reads `many` one by one.
use Rattle.std.proofs.Common.{◌≡◌, ◌-◌}
use Rattle.definitions.specs.Reading.{many}
use Rattle.definitions.specs.Reader.{byte_up_to}
use Rattle.record_reader.specs.ReadTo.{read_to}
use Rattle.record_reader.specs.Bodies.{counted}
use Rattle.record_reader.proofs.read_bytes_up_to.Given as goal

abbrev pub invariant-loop-i : goal.invariant-loop-i
invariant-loop-i l = read_to (counted (byte_up_to l.most) l.s l.at) ≡ read_to (many (l.count - l._i) (byte_up_to l.most) l.s l.next)

-- `put_bytes` puts one byte more a turn behind those so far.
use Prim.Native.Nat.{◌+◌, ◌*◌}
use mathlib.Core.Path.{◌≡◌}
use lib.ListN.{take}
use Rattle.model.specs.Line.{digits_of}
use Rattle.lines.specs.Write.{overwritten}
use Rattle.lines.proofs.write.put_bytes.Given as goal

abbrev pub invariant-loop-byte : goal.invariant-loop-byte
invariant-loop-byte l =
    (l.next ≡ l.at + 2 * l.byte-index) × (l.buffer ≡ overwritten l.initial.buffer l.at (digits_of (take l.byte-index l.bytes)))

-- `windows_length` has 13 bytes for each of the n places that has a line.
use mathlib.Core.Path.{◌≡◌, ap, ◌∙◌}
use Prim.Native.Nat.{ℕ, ◌*◌}
use native.Mathlib.Omega.{arith}
use lib.ListN.{length, take}
use Rattle.std.specs.List.{count_by}
use Rattle.further_put.proofs.Texts.{has_line, windows_size, windows_most}
use Rattle.further_put.proofs.windows.windows_length.Goals as goal

pub overflow_mul-result : goal.overflow_mul-result
overflow_mul-result c = let batch = c.args.batch in
    let all : length batch.windows ≡ 24 = c.well_formed.0.1.1.1.1.1.1.1.0.1.0.1 in
    let count : c.lined.result ≡ count_by has_line (take batch.n batch.windows) = rw c.from-n.ensures at c.lined.ensures in
    record { fits = omega (arith, count, windows_most batch (omega arith)) }

pub returns : goal.returns
returns c = let batch = c.args.batch in
    let all : length batch.windows ≡ 24 = c.well_formed.0.1.1.1.1.1.1.1.0.1.0.1 in
    let count : c.lined.result ≡ count_by has_line (take batch.n batch.windows) = rw c.from-n.ensures at c.lined.ensures in
    let most = windows_most batch (omega arith) in
    (ap (λ (k : ℕ). 13 * k) count ∙ windows_size batch (omega arith), omega (arith, count, most))

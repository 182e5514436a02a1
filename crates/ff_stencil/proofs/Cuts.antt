-- Chunks of one size cover the line.
use Rattle.std.proofs.Common.{◌≡◌, ℕ, ◌+◌, ◌*◌, ◌/◌, ◌%◌, ◌<◌, arith, replicate, length}
use Rattle.std.specs.Prelude.{sum}
use Rattle.std.proofs.lemmas.List.Sums.{sum_by_push}
use Rattle.std.proofs.lemmas.List.Folds.{sum_by-replicate}
use Rattle.std.proofs.Math.Nat.{mod-add-div'}
use Rattle.ff_stencil.specs.Chunks.{sizes, ChunksOfOneSize}
use Rattle.ff_stencil.proofs.Windows.{chunks_make_the_turn}

sizes-cover : (size n : ℕ) → 0 < size → sum (sizes size n) ≡ n
sizes-cover size n some =
    let a : sum (sizes size n) ≡ sum (replicate (n / size) size) + n % size = sum_by_push (λ x. x) (replicate (n / size) size) (n % size) in
    let b : sum (replicate (n / size) size) ≡ (n / size) * size = sum_by-replicate (λ x. x) (n / size) size in
    let e = mod-add-div' n size in omega (arith, a, b, e)

pub chunks_of_one_size : ChunksOfOneSize
chunks_of_one_size rule ns size some = chunks_make_the_turn rule ns (sizes size (length ns)) (sizes-cover size (length ns) some)

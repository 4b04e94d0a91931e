-- Site programs all of whose outputs go to out channels. Assumes nothing.
use Rattle.std.specs.Prelude.{◌<◌, ◌≤◌}
use Rattle.std.specs.List.{AllByRecursion}
use Rattle.language.specs.Block.{Block, done, skip, assign, output, branch, repeat, Handler, Tree}

-- a block's outputs have the channels 16 to 31
abbrev pub Outward : Block → Type 0
Outward done = Unit {0}
Outward (skip k) = Outward k
Outward (assign v e k) = Outward k
Outward (output c e k) = (16 ≤ c) × (c < 32) × Outward k
Outward (branch w e p q k) = Outward p × Outward q × Outward k
Outward (repeat e p k) = Outward p × Outward k

abbrev pub OutwardHandler : Handler → Type 0
OutwardHandler h = Outward h.body

abbrev pub OutwardTree : Tree → Type 0
OutwardTree p = AllByRecursion OutwardHandler p

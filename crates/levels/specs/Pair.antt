-- A pair of schemes: level n is the pair of n / b and n % b, where b counts the right scheme, ordered part by part. Assumes nothing.
use Rattle.std.specs.Prelude.{◌+◌, ◌*◌, ◌/◌, ◌%◌, Bool, cond, ◌&&◌, nat_le}
use Rattle.levels.specs.Scheme.{Levels}
use Rattle.levels.specs.Chain.{chain}

abbrev pub product : Levels → Levels → Levels
product P Q = record {
  count = P.count * Q.count;
  below = λ m n. P.below (m / Q.count) (n / Q.count) && Q.below (m % Q.count) (n % Q.count);
  lowest = P.lowest * Q.count + Q.lowest;
  join = λ m n. P.join (m / Q.count) (n / Q.count) * Q.count + Q.join (m % Q.count) (n % Q.count);
}

abbrev pub is_pair : Levels → Levels → Bool
is_pair P Q = nat_le (P.count * Q.count) 16

-- were a pair of more than 16 levels asked, it would be a chain of 1
abbrev pub pair : Levels → Levels → Levels
pair P Q = cond (is_pair P Q) (product P Q) (chain 1)

use Rattle.std.proofs.Common.{◌≡◌, ℕ, take, nat_cmp}
use Rattle.std.specs.BTreeMap as tree
use Rattle.nfit_reader.specs.Table.{place_of}
use Rattle.nfit_reader.proofs.modules.places_of.Given as goal

abbrev pub invariant-loop-place : goal.invariant-loop-place
invariant-loop-place l = (key : ℕ) → tree.get nat_cmp l.places key ≡ place_of key (take l.place l.keys)

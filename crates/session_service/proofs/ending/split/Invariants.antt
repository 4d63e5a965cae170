use Rattle.std.proofs.Common.{◌≡◌, ◌++◌, drop, length, map, take}
use Rattle.session_service.specs.Namespaces.{arenas_in, servings_at}
use Rattle.session_service.specs.Ran.{in_row}
use Rattle.session_service.proofs.ending.split.Given as goal

abbrev pub invariant-loop-place : goal.invariant-loop-place
invariant-loop-place l = record {
  row : in_row l.arenas.items ++ l.rest.items ≡ l.fn.row.items;
  counts : map (λ c. length c.items) l.arenas.items ≡ map (λ s. length s.arenas) (servings_at (take l.place-index l.places));
  left : length (arenas_in (servings_at (drop l.place-index l.places))) ≡ length l.rest.items;
}

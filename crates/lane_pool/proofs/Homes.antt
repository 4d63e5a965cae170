-- Sets that are all at home, one after another.
use Rattle.std.proofs.Common.{◌≡◌, List, [], ◌∷◌, ◌++◌, map, Option, Some, sym, ap, ◌∙◌}
use Rattle.std.proofs.lemmas.List.{map-append}
use Rattle.lane_pool.specs.declared.sets.LaneSet.{LaneSet}

pub home_more : (home home' : List (Option LaneSet)) (done : List LaneSet) (s : LaneSet) → home' ≡ home ++ Some s ∷ [] → home ≡ map (λ s. Some s) done → home' ≡ map (λ s. Some s) (done ++ s ∷ [])
home_more home home' done s pushed is = pushed ∙ ap (λ (h : List (Option LaneSet)). h ++ Some s ∷ []) is ∙ sym (map-append (λ s. Some s) done (s ∷ []))

pub sets_more : (sets sets' : List LaneSet) (done : List (Option LaneSet)) (s : LaneSet) → sets' ≡ sets ++ s ∷ [] → map (λ s. Some s) sets ≡ done → map (λ s. Some s) sets' ≡ done ++ Some s ∷ []
sets_more sets sets' done s pushed is = ap (λ xs. map (λ s. Some s) xs) pushed ∙ map-append (λ s. Some s) sets (s ∷ []) ∙ ap (λ (h : List (Option LaneSet)). h ++ Some s ∷ []) is

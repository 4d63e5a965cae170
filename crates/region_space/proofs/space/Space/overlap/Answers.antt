use Rattle.std.proofs.Common.{◌≡◌, ℕ, suc, ◌+◌, Bool, List, drop, get_or, add-one, sym, ◌∙◌, ap}
use Rattle.std.specs.List.{list_any}
use Rattle.std.proofs.lemmas.List.Quantifiers.{position-Some}
use Rattle.region_space.specs.declared.extent.Extent.{Extent}
use Rattle.region_space.specs.Space.{clash}
use Rattle.region_space.specs.Fitting.{partner_of}
use Rattle.region_space.proofs.Clashes.{overlap_none, overlap_at, position_none, rest_from}
use Rattle.region_space.proofs.space.Space.overlap.Goals as goal

pub returns-in_err-first : goal.returns-in_err-first
returns-in_err-first c =
    let xs = c.args.self.now in
    c.from_residual.ensures ∙ sym (overlap_none xs (position_none (λ e. list_any (clash e) xs) xs (sym c.in_err-first.ensures)))

pub returns : goal.returns
returns c =
    let xs = c.args.self.now in
    let l = c.as_slice-extents.result.now in
    let i = c.in_ok-first.first in
    let x = c.index-extents-first.result in
    let p : Extent → Bool = λ e. list_any (clash e) xs in
    let same : l ≡ xs = c.as_slice-extents.ensures ∙ c.self.view_is in
    let found = λ (b : Extent). position-Some p xs i b (sym c.in_ok-first.ensures) in
    let here : x ≡ get_or xs i x = c.index-extents-first.is ∙ ap (λ (l : List Extent). get_or l i x) same in
    let rest : drop (i + 1) l ≡ drop (suc i) xs = ap (λ (n : ℕ). drop n l) (add-one i) ∙ ap (λ (l : List Extent). drop (suc i) l) same in
    c.partner.ensures ∙ ap (λ (es : List Extent). partner_of x es) (rest_from l (i + 1) ∙ rest) ∙ ap (λ (e : Extent). partner_of e (drop (suc i) xs)) here
    ∙ sym (overlap_at xs i x (found x).0 (found x).1 (λ k b lt. (found b).2 k lt))

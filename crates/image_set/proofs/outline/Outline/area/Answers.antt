use Rattle.std.proofs.Common.{◌≡◌, ℕ, List, get_or, None, Vec, Global, IfOk, arith, sym, ap, ◌∙◌}
use Rattle.std.specs.Prelude.{unwrap_or, Result, Ok, Err}
use Rattle.std.specs.Option.{option_map}
use Rattle.image_set.specs.Load.{area_of, bytes_kept}
use Rattle.image_set.specs.Outline.{image_set_with}
use Rattle.image_set.proofs.Areas.{taken_is}
use Rattle.image_set.proofs.outline.Outline.area.Goals as goal

if_same : {A E X : Type 0} (f : A → X) (r : Result A E) (due : X) (all : List (List ℕ) → X) → ((contents : List (List ℕ)) → due ≡ all contents) → IfOk r (λ found. f found ≡ due)
    → IfOk r (λ found. (contents : List (List ℕ)) → f found ≡ all contents)
if_same f (Ok found) due all same is = λ contents. is ∙ same contents
if_same f (Err e) due all same is = tt

pub returns-in-Some-clause-area : goal.returns-in-Some-clause-area
returns-in-Some-clause-area c =
    let outline = c.args.self.now in
    let there : c.in-Some.area.now ≡ get_or outline.labels c.args.module None = sym (ap (λ found. unwrap_or (option_map (λ x. x.now) found) None) c.in-Some.is) ∙ c.get.ensures.lookup.4 (omega arith) None
    ∙ ap (λ labels. get_or labels c.args.module None) c.as_slice.ensures in
    if_same (option_map (λ (bytes : Vec ℕ Global). bytes.items)) c.area_bytes.result (option_map bytes_kept c.in-Some.area.now) (λ contents. area_of (image_set_with outline contents) c.args.module)
    (λ contents. ap (option_map bytes_kept) there ∙ taken_is outline c.args.module contents) c.area_bytes.ensures.area

pub returns-in-None-clause-area : goal.returns-in-None-clause-area
returns-in-None-clause-area c = λ contents.
    let outline = c.args.self.now in
    let there : None ≡ get_or outline.labels c.args.module None = sym (ap (λ found. unwrap_or (option_map (λ x. x.now) found) None) c.in-None.is) ∙ c.get.ensures.lookup.4 (omega arith) None
    ∙ ap (λ labels. get_or labels c.args.module None) c.as_slice.ensures in
    ap (option_map bytes_kept) there ∙ taken_is outline c.args.module contents

-- What a service is made of.
use Rattle.std.proofs.Common.{◌≡◌, ◌⊎◌, inl, inr, ℕ, suc, ◌+◌, ◌-◌, ◌%◌, ◌<◌, ◌≤◌, List, [], ◌∷◌, ◌++◌, length, length-append, get_or, map, refl, sym, ap, ◌∙◌, subst, arith, append_assoc, append-nil}
use Rattle.std.specs.Prelude.{All, IsTrue}
use mathlib.Core.List.{map-append}
use Rattle.std.proofs.lemmas.List.{length-map}
use Rattle.std.proofs.Math.ListN.{get_or-append}
use Rattle.arena_layout.specs.declared.layout.Layout.{Layout}
use Rattle.arena_layout.specs.Layout.{is_sector}
use Rattle.arena_open.specs.declared.state.ArenaState.{ArenaState}
use Rattle.session_account.specs.Serving.{Serving}
use Rattle.session_account.proofs.Following.{either}
use Rattle.session_script.specs.declared.script.SessionLines.{SessionLines}
use Rattle.lane_sessions.specs.declared.making.SessionLimits.{SessionLimits}
use Rattle.session_service.specs.declared.namespaces.NamespaceArenas.{NamespaceArenas}
use Rattle.session_service.specs.declared.namespaces.ServedNamespace.{ServedNamespace}
use Rattle.session_service.specs.declared.service.Service.{Service}
use Rattle.session_service.specs.Made.{limits_of, rooms_of, states_in}
use Rattle.session_service.specs.Namespaces.{AreLaid, AreOpened, FirstsFrom, arenas_in, serving_at, serving_of, servings_at, servings_of, shape_as, shape_by}
use Rattle.session_service.specs.Services.{IsLaid, arenas_of}
use Rattle.session_service.proofs.Numbers.{behind}

-- ---- shapes

pub shapes_of : (served : List ServedNamespace) → map shape_by (states_in served) ≡ arenas_in (servings_of served)
shapes_of [] = refl
shapes_of (n ∷ served) = map-append shape_by n.arenas.items (states_in served) ∙ ap (λ ss. map shape_by n.arenas.items ++ ss) (shapes_of served)

-- ---- what holds of each arena

pub all_two : {A : Type 0} (P : A → Type 0) (xs ys : List A) → All P xs → All P ys → All P (xs ++ ys)
all_two P xs ys a b i d h = by (either i (length xs))
  where
    by : (i < length xs) ⊎ (length xs ≤ i) → P (get_or (xs ++ ys) i d)
    by (inl lt) = subst P (sym (get_or-append xs ys d i lt)) (a i d lt)
    by (inr le) =
        let l = length-append xs ys in
        let j : ℕ = i - length xs in
        let at : i ≡ length xs + j = omega (arith, le) in
        subst P (sym (ap (λ (k : ℕ). get_or (xs ++ ys) k d) at ∙ behind xs ys j d)) (b j d (omega (arith, h, l, le)))

each_in : (P : ArenaState → Type 0) (served : List ServedNamespace) → ((i : ℕ) (d : ServedNamespace) → i < length served → All P (get_or served i d).arenas.items) → All P (states_in served)
each_in P [] all i d h = absurd (omega (arith, h))
each_in P (n ∷ served) all i d h = all_two P n.arenas.items (states_in served) (all 0 n (omega arith)) (each_in P served (λ i d h. all (suc i) d (omega (arith, h)))) i d h

-- a sector has whole words
whole_sector : (bytes : ℕ) → IsTrue (is_sector bytes) → bytes % 8 ≡ 0
unfolding is_sector
whole_sector bytes h = grind arith

pub all_whole : (served : List ServedNamespace) → All AreOpened served → All (λ a. a.info.layout.sector % 8 ≡ 0) (states_in served)
all_whole served opened = each_in (λ (a : ArenaState). a.info.layout.sector % 8 ≡ 0) served
    (λ i d h k e g. whole_sector (get_or (get_or served i d).arenas.items k e).info.layout.sector (opened i d h k e g).sound.layout.sector)

-- ---- a service

pub is_laid : (service : Service) (places : List NamespaceArenas) (served : List ServedNamespace) → service.places.items ≡ places → servings_at places ≡ servings_of served → AreLaid places → arenas_of service ≡ states_in served → All AreOpened served
    → length service.sectors.arenas.items ≡ length (arenas_of service) → IsLaid service
is_laid service places served same all laid arenas opened count = record {
  laid = subst AreLaid (sym same) laid;
  shapes = ap (λ (ss : List ArenaState). map shape_by ss) arenas ∙ shapes_of served ∙ ap arenas_in (sym (ap servings_at same ∙ all));
  whole = subst (λ ss. All (λ (a : ArenaState). a.info.layout.sector % 8 ≡ 0) ss) (sym arenas) (all_whole served opened);
  count = count;
}

-- ---- one namespace more

pub arenas_more : (all : List Serving) (s : Serving) → arenas_in (all ++ s ∷ []) ≡ arenas_in all ++ s.arenas
arenas_more [] s = append-nil s.arenas
arenas_more (t ∷ all) s = ap (λ ss. t.arenas ++ ss) (arenas_more all s) ∙ sym (append_assoc t.arenas (arenas_in all) s.arenas)

pub states_more : (served : List ServedNamespace) (n : ServedNamespace) → states_in (served ++ n ∷ []) ≡ states_in served ++ n.arenas.items
states_more [] n = append-nil n.arenas.items
states_more (m ∷ served) n = ap (λ ss. m.arenas.items ++ ss) (states_more served n) ∙ sym (append_assoc m.arenas.items (states_in served) n.arenas.items)

pub firsts_more : (n : ℕ) (places : List NamespaceArenas) (p : NamespaceArenas) → FirstsFrom n places → p.first ≡ n + length (arenas_in (servings_at places)) → FirstsFrom n (places ++ p ∷ [])
firsts_more n [] p h is = (omega (arith, is), tt)
firsts_more n (x ∷ places) p h is =
    let l = length-map x.arenas.items (λ (a : Layout). shape_as a) in
    let a = length-append (serving_at x).arenas (arenas_in (servings_at places)) in
    (h.0, firsts_more (n + length x.arenas.items) places p h.1 (omega (arith, is, l, a)))

-- the place that was made for a namespace
module _ (p : NamespaceArenas) (n : ServedNamespace) (uuid : p.uuid ≡ n.uuid) (layouts : p.arenas.items ≡ map (λ a. a.info.layout) n.arenas.items) where
  pub serving_is : serving_at p ≡ serving_of n
  serving_is = λ i. record { uuid = uuid i; arenas = (ap (map shape_as) layouts ∙ two n.arenas.items) i }
    where
      two : (states : List ArenaState) → map shape_as (map (λ a. a.info.layout) states) ≡ map shape_by states
      two [] = refl
      two (s ∷ states) = ap (λ ss. shape_by s ∷ ss) (two states)

  module _ (places places' : List NamespaceArenas) (more : places' ≡ places ++ p ∷ []) (served : List ServedNamespace) (states states' : List ArenaState) (made : states' ≡ states ++ n.arenas.items) where
    pub all_more : servings_at places ≡ servings_of served → servings_at places' ≡ servings_of (served ++ n ∷ [])
    all_more all =
        ap servings_at more ∙ map-append serving_at places (p ∷ []) ∙ (λ i. all i ++ serving_is i ∷ []) ∙ sym (map-append serving_of served (n ∷ []))

    pub placed_more : FirstsFrom 0 places → length (arenas_in (servings_at places)) ≡ length states → p.first ≡ length states → FirstsFrom 0 places'
    placed_more firsts count first = subst (λ ps. FirstsFrom 0 ps) (sym more) (firsts_more 0 places p firsts (omega (arith, count, first)))

    pub count_more : length (arenas_in (servings_at places)) ≡ length states → length (arenas_in (servings_at places')) ≡ length states'
    count_more count =
        let a = ap (λ ss. length (arenas_in ss)) (ap servings_at more ∙ map-append serving_at places (p ∷ [])) in
        let b = ap (λ ss. length ss) (arenas_more (servings_at places) (serving_at p)) in
        let c = length-append (arenas_in (servings_at places)) (serving_at p).arenas in
        let d = ap (λ (ss : List ArenaState). length ss) made in
        let e = length-append states n.arenas.items in
        let g = ap (λ (s : Serving). length s.arenas) serving_is in
        let h = length-map n.arenas.items shape_by in
        omega (arith, a, b, c, d, e, g, h, count)

    pub states_all : states ≡ states_in served → states' ≡ states_in (served ++ n ∷ [])
    states_all is = made ∙ ap (λ ss. ss ++ n.arenas.items) is ∙ sym (states_more served n)

-- ---- the sessions of a script

pub rooms_length : (rooms : List ℕ) (sessions : List SessionLines) → rooms ≡ rooms_of sessions → length rooms ≡ length sessions
rooms_length rooms sessions is = ap (λ (ns : List ℕ). length ns) is ∙ length-map sessions (λ (s : SessionLines). length s.calls + 1)

abbrev pub limits_by : SessionLines → SessionLimits
limits_by s = record { cut = s.cut; calls = length s.calls }

pub limits_length : (limits : List SessionLimits) (sessions : List SessionLines) → limits ≡ limits_of sessions → length limits ≡ length sessions
limits_length limits sessions is = ap (λ (ls : List SessionLimits). length ls) is ∙ length-map sessions limits_by

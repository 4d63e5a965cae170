-- Label areas after any commands.
use Rattle.std.proofs.Common.{◌≡◌, Bool, true, false, List, map, Option, Some, None, Ok, Err, refl, sym, ap, ◌∙◌, subst, ℕ}
use Rattle.std.specs.Prelude.{is_ok}
use Rattle.cut_words.specs.Fuses.{burnt, lasts}
use Rattle.namespace_areas.specs.declared.area.Area.{Area}
use Rattle.namespace_areas.specs.Seen.{AreHeld, areas_seen}
use Rattle.namespace_areas.specs.Went.{Went, size_of, unready}
use Rattle.namespace_map.specs.declared.commands.Command.{Command}
use Rattle.namespace_map.specs.declared.refused.OpRefused.{OpRefused}
use Rattle.namespace_map.specs.Commands.{refusal_of}
use Rattle.namespace_map.specs.Changes.{changes_of}
use Rattle.namespace_ops.specs.Carried.{is_cut}
use Rattle.namespace_ops.specs.Counted.{Answered, State, namespaces_in, steps_before}
use Rattle.namespace_ops.specs.Entries.{Reply as Answer}
use Rattle.namespace_ops.specs.Replay.{is_memory}
use Rattle.registry_service.specs.Served.{AreKept}
use Rattle.namespace_ops.proofs.Journaled.{memory_is}
use Rattle.registry_service.proofs.Journals.{not_memory}

pub first_kept : (opening areas : List Area) (stopped : Bool) → opening ≡ areas → AreKept opening areas stopped
first_kept opening areas stopped same = record {
  beside = ap (map unready) (sym same);
  sizes = ap (map size_of) (sym same);
  held = λ h _. subst AreHeld same h;
}

module _ (opening : List Area) (s s' : State) (left left' : Option ℕ) (c : Command) (a : Answer) (is : Answered s s' left left' c a) (k : AreKept opening s.areas s.stopped) where
  stays : s' ≡ s → AreKept opening s'.areas s'.stopped
  stays same = subst (λ (x : State). AreKept opening x.areas x.stopped) (sym same) k

  module _ (on : s.stopped ≡ false) (memory : is_memory a ≡ false) (none : refusal_of (namespaces_in s) c ≡ None) where
    -- power was cut before the label changes
    within : lasts left (steps_before c) ≡ false → AreKept opening s'.areas s'.stopped
    within short =
        let w = is.within (on, not_memory a memory) none short in
        record {
          beside = ap (map unready) w.1 ∙ k.beside;
          sizes = ap (map size_of) w.1 ∙ k.sizes;
          held = λ h run. absurd (let x : true ≡ false = sym (is.stopped on ∙ ap is_cut w.0) ∙ run in cc);
        }

    held_after : (r : Answer) → a ≡ r → Went s.areas s'.areas (burnt left (steps_before c)) left' (changes_of (namespaces_in s) (areas_seen s.areas) c) (is_ok a) → s'.stopped ≡ false → AreHeld s'.areas
    held_after (Ok v) ok w run = w.held (ap is_ok ok)
    held_after (Err f) err w run = absurd (let x : true ≡ false = sym (is.stopped on ∙ ap is_cut err ∙ ap (λ (f : OpRefused). is_cut (Err f)) (is.cut (on, not_memory a memory) none f err)) ∙ run in cc)

    went : lasts left (steps_before c) ≡ true → AreKept opening s'.areas s'.stopped
    went long =
        let w = is.went (on, not_memory a memory) none long in
        record {
          beside = w.beside ∙ k.beside;
          sizes = w.sizes ∙ k.sizes;
          held = λ h run. held_after a refl w run;
        }

    by_fuse : (b : Bool) → lasts left (steps_before c) ≡ b → AreKept opening s'.areas s'.stopped
    by_fuse true = went
    by_fuse false = within

  by_refusal : s.stopped ≡ false → is_memory a ≡ false → (r : Option OpRefused) → refusal_of (namespaces_in s) c ≡ r → AreKept opening s'.areas s'.stopped
  by_refusal on memory (Some f) e = stays (is.refused (on, not_memory a memory) f e).1
  by_refusal on memory None e = by_fuse on memory e (lasts left (steps_before c)) refl

  by_memory : s.stopped ≡ false → (m : Bool) → is_memory a ≡ m → AreKept opening s'.areas s'.stopped
  by_memory on true memory = stays (is.memory (memory_is a memory)).0
  by_memory on false memory = by_refusal on memory (refusal_of (namespaces_in s) c) refl

  by_power : (b : Bool) → s.stopped ≡ b → AreKept opening s'.areas s'.stopped
  by_power true off = stays (is.off off).1
  by_power false on = by_memory on (is_memory a) refl

  -- a call keeps it
  pub still_kept : AreKept opening s'.areas s'.stopped
  still_kept = by_power s.stopped refl

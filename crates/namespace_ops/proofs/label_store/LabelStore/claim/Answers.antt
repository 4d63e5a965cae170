use Rattle.std.proofs.Common.{◌≡◌, List, Ok, Err, false, sym, ap, ◌∙◌, subst}
use Rattle.nfit_reader.specs.declared.table.Mapping.{Mapping}
use Rattle.nvd_words.specs.Checks.{value_unless}
use Rattle.namespace_map.specs.Namespaces.{entry_at}
use Rattle.namespace_map.specs.Commands.{claim_refusal}
use Rattle.namespace_areas.specs.Refusals.{shown}
use Rattle.namespace_areas.specs.Finding.{found_of}
use Rattle.namespace_areas.specs.Seen.{AreHeld}
use Rattle.namespace_ops.specs.Carried.{is_cut}
use Rattle.namespace_ops.specs.Held.{Held}
use Rattle.namespace_ops.proofs.Claimed.{unit_of, claimed, claim_carried, claim_uncut}
use Rattle.namespace_ops.proofs.label_store.LabelStore.claim.Goals as goal

pub returns-in-Ok-clause-answer : goal.returns-in-Ok-clause-answer
returns-in-Ok-clause-answer c =
    let h = c.self.inside in
    let uuid = c.args.uuid.now in
    let running : h.stopped ≡ false = ap (λ (s : Held). s.stopped) c.self.view_is ∙ c.requires.running in
    let cur = c.self.invariant.current running in
    let is = claimed h.sets h.areas.items h.groups.sorted uuid cur.held cur.same in
    let found : found_of h.sets (entry_at h.sets h.groups.sorted uuid) ≡ Ok c.in-Ok._found =
    sym c.in-Ok.ensures.found in
    subst (λ (s : Held). Ok tt ≡ value_unless tt (claim_refusal (shown s.sets s.areas) uuid)) c.self.view_is (sym (ap unit_of found) ∙ is)

pub returns-in-Err-clause-answer : goal.returns-in-Err-clause-answer
returns-in-Err-clause-answer c =
    let h = c.self.inside in
    let uuid = c.args.uuid.now in
    let running : h.stopped ≡ false = ap (λ (s : Held). s.stopped) c.self.view_is ∙ c.requires.running in
    let cur = c.self.invariant.current running in
    let is = claimed h.sets h.areas.items h.groups.sorted uuid cur.held cur.same in
    let found : found_of h.sets (entry_at h.sets h.groups.sorted uuid) ≡ Err c.in-Err.refused =
    sym c.in-Err.ensures.found in
    subst (λ (s : Held). Err c.in-Err.refused ≡ value_unless tt (claim_refusal (shown s.sets s.areas) uuid)) c.self.view_is (sym (ap unit_of found) ∙ is)

pub returns-in-Ok-clause-carried : goal.returns-in-Ok-clause-carried
returns-in-Ok-clause-carried c fuse =
    let running : c.self.inside.stopped ≡ false = ap (λ (s : Held). s.stopped) c.self.view_is ∙ c.requires.running in
    let held : AreHeld c.args.self.now.areas = subst (λ (s : Held). AreHeld s.areas) c.self.view_is (c.self.invariant.current running).held in
    claim_carried c.args.self.now.sets c.args.self.now.areas held c.args.uuid.now (Ok tt) (returns-in-Ok-clause-answer c) fuse

pub returns-in-Err-clause-carried : goal.returns-in-Err-clause-carried
returns-in-Err-clause-carried c fuse =
    let running : c.self.inside.stopped ≡ false = ap (λ (s : Held). s.stopped) c.self.view_is ∙ c.requires.running in
    let held : AreHeld c.args.self.now.areas = subst (λ (s : Held). AreHeld s.areas) c.self.view_is (c.self.invariant.current running).held in
    claim_carried c.args.self.now.sets c.args.self.now.areas held c.args.uuid.now (Err c.in-Err.refused) (returns-in-Err-clause-answer c) fuse

pub returns-in-Err-clause-uncut : goal.returns-in-Err-clause-uncut
returns-in-Err-clause-uncut c = ap is_cut (returns-in-Err-clause-answer c) ∙ claim_uncut (shown c.args.self.now.sets c.args.self.now.areas) c.args.uuid.now

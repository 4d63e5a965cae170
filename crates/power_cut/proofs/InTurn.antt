-- Parts after a crash, one by one.
use Rattle.std.proofs.Common.{List, [], ◌∷◌, ◌++◌, refl, ap, subst}
use Rattle.power_cut.specs.Left.{InTurn, Each}

-- one more part
pub in_turn_more : {C X Y : Type 0} (leaves : X → Y → C → C → Type 0) (parts : List X) (left : List Y) (part : X) (one : Y) (a b c : C) → InTurn leaves parts left a b → leaves part one b c
    → InTurn leaves (parts ++ part ∷ []) (left ++ one ∷ []) a c
in_turn_more leaves [] left part one a b c done here =
    (one, [], c, ap (λ l. l ++ one ∷ []) done.0, subst (λ s. leaves part one s c) done.1 here, (refl, refl))
in_turn_more leaves (p ∷ parts) left part one a b c done here =
    (done.0, done.1 ++ one ∷ [], done.2, ap (λ l. l ++ one ∷ []) done.3, done.4, in_turn_more leaves parts done.1 part one done.2 b c done.5 here)

pub each_more : {X Y : Type 0} (leaves : X → Y → Type 0) (parts : List X) (left : List Y) (part : X) (one : Y) → Each leaves parts left → leaves part one
    → Each leaves (parts ++ part ∷ []) (left ++ one ∷ [])
each_more leaves [] left part one done here = (one, [], ap (λ l. l ++ one ∷ []) done, here, refl)
each_more leaves (p ∷ parts) left part one done here =
    (done.0, done.1 ++ one ∷ [], ap (λ l. l ++ one ∷ []) done.2, done.3, each_more leaves parts done.1 part one done.4 here)

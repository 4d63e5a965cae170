-- What is taken out at the end.
use Rattle.std.proofs.Common.{◌≡◌, List, [], ◌∷◌, ◌++◌, length, refl, sym, ap, ◌∙◌, subst, append_assoc, arith}
use Rattle.ticket_queue.specs.declared.ticket.Ticket.{Ticket}
use Rattle.ticket_queue.specs.declared.ticket.View.{View}
use Rattle.ticket_queue.specs.Law.{Learned, LeftFirst, LeftNext}

module _ {T : Type 0} where
  no_length : (xs : List (Ticket T)) → length xs ≡ 0 → xs ≡ []
  no_length [] e = refl
  no_length (x ∷ xs) e = absurd (omega arith)

  pub none_left : (v : View T) (items left : List (Ticket T)) → length items ≡ 0 → Learned v items → left ≡ [] → Learned v left
  none_left v items left none learned is = subst (Learned v) (no_length items none ∙ sym is) learned

  pub first_left : (v w w' : View T) (x : Ticket T) (left more out : List (Ticket T)) → LeftFirst v x w → w' ≡ w → left ≡ [] → more ≡ left ++ x ∷ [] → out ≡ more ++ w'.known → Learned v out
  first_left v w w' x left more out first same none pushed rest =
      subst (Learned v) (sym (rest ∙ ap (λ l. l ++ w'.known) (pushed ∙ ap (λ l. l ++ x ∷ []) none) ∙ ap (λ (u : View T). x ∷ u.known) (same ∙ first.1))) first.2

  -- one more is left
  pub next_left : (v w : View T) (x : Ticket T) (left more : List (Ticket T)) → LeftNext v x w → more ≡ left ++ x ∷ [] → more ++ w.known ≡ left ++ v.known
  next_left v w x left more next pushed = ap (λ l. l ++ w.known) pushed ∙ (append_assoc left (x ∷ []) w.known ∙ ap (λ l. left ++ l) (ap (λ (u : View T). x ∷ u.known) next.2 ∙ sym next.1))

-- A revision's text comes to the same over states that are the same up to order.
use Rattle.std.proofs.Common.{◌≡◌, ◌≤◌, ℕ, List, length, Option, Some, None, refl, sym, ap, ◌∙◌, subst, inl, inr}
use Rattle.mtn_replay.specs.Accepting.{logged_beside, refusal_beside, Decides, IsDecided}
use Rattle.mtn_base.specs.Hex.{id_of}
use Rattle.mtn_base.specs.declared.refusal.Cause.{Cause}
use Rattle.mtn_base.specs.declared.refusal.Cause.TheVariants.{TextTooLong}
use Rattle.mtn_changes.specs.declared.change.Revision.{Revision as Spelled}
use Rattle.mtn_step.specs.Step.{id_line, unless, PutsRevision}
use Rattle.mtn_history_laws.specs.History.{Revision}
use Rattle.mtn_replay.specs.Texts.{text_under}
use Rattle.mtn_replay.specs.Lawful.{IsHistory, Spells}
use Rattle.mtn_replay.specs.Making.{made, refusal_of}
use Rattle.mtn_model.specs.State.{State}
use Rattle.mtn_order.specs.Free.{IsOrderFree}
use Rattle.mtn_order.proofs.Framing.{is_outcome, other_history, same_unless}
use Rattle.mtn_replay.proofs.CertLemmas.{lawful_text}
use Rattle.mtn_order.proofs.States.{same_with_text}
use Rattle.mtn_order.proofs.Texts.{same_text}
use Rattle.mtn_step_laws.proofs.Accepting.{logged, next_of, refused_already}
use Rattle.mtn_renaming.specs.Order.{IsSameUpToOrder}
use Rattle.mtn_renaming.specs.Renaming.{elsewhere}
use Rattle.mtn_renaming.proofs.Refusing.{same_refusal}

module _ (f : List ℕ → List ℕ) (s t : State) (same : IsSameUpToOrder f s t) (text : List ℕ) (h g : List Revision) (r : Spelled) (ih : IsHistory f s.files s.log h) (ig : IsHistory f t.files t.log g) (short : length text ≤ 67108864) (spells : Spells text r)
    (refusals : refusal_of f t.files g (id_of (f text)) r ≡ refusal_of f s.files h (id_of (f text)) r) where
  beside_same : (o : Option (List ℕ)) → refusal_beside o f t.files g text r ≡ refusal_beside o f s.files h text r
  beside_same (Some held) = refl
  beside_same None = refusals

  same_after : (o : Option (List ℕ)) → text_under s.log (f text) ≡ o → text_under t.log (f text) ≡ o → refusal_beside o f s.files h text r ≡ None → IsSameUpToOrder f (logged_beside o f s text) (logged_beside o f t text)
  same_after (Some held) one other fine = same
  same_after None one other fine =
      let next = next_of f s h text r ih short spells one fine in
      let also = next_of f t g text r ig short spells other (refusals ∙ fine) in
      same_with_text f s t (logged f text) same
      (lawful_text f s h (logged f text) (made h (id_of (f text)) r.edges) same.one ih next)
      (lawful_text f t g (logged f text) (made g (id_of (f text)) r.edges) same.other ig also)

-- the text is decided by the history
decided : (f : List ℕ → List ℕ) (s t : State) (same : IsSameUpToOrder f s t) (text : List ℕ) (refusal : Option Cause) (after : State) → IsDecided f s text refusal after →
    (v : State) × IsDecided f t text refusal v × (refusal ≡ None → IsSameUpToOrder f after v)
decided f s t same text refusal after d =
    let h = d.history in
    let other = other_history f s t h same d.spelled in
    let g = other.0 in
    let one = text_under s.log (f text) in
    let texts : text_under t.log (f text) ≡ one = same_text f t.files t.log g other.1 s.log (f text) same.texts in
    let refusals : refusal_of f t.files g (id_of (f text)) d.read ≡ refusal_of f s.files h (id_of (f text)) d.read =
    ap (λ files. refusal_of f files g (id_of (f text)) d.read) (sym same.files) ∙ same_refusal h g (elsewhere h g) (elsewhere g h) other.2 f s.files (id_of (f text)) d.read in (
      logged_beside one f t text,
      record {
        short = d.short;
        read = d.read;
        spells = d.spells;
        history = g;
        spelled = other.1;
        is = d.is ∙ sym (beside_same f s t same text h g d.read d.spelled other.1 d.short d.spells refusals one) ∙ ap (λ o. refusal_beside o f t.files g text d.read) (sym texts);
        after = ap (λ o. logged_beside o f t text) (sym texts);
      },
      λ none. subst (λ (u : State). IsSameUpToOrder f u (logged_beside one f t text)) (sym d.after)
          (same_after f s t same text h g d.read d.spelled other.1 d.short d.spells refusals one refl texts (sym d.is ∙ none)),
    )

pub comes_to : (f : List ℕ → List ℕ) (s t : State) (same : IsSameUpToOrder f s t) (text : List ℕ) (refusal : Option Cause) (after : State) → Decides f s text refusal after →
    (v : State) × Decides f t text refusal v × (refusal ≡ None → IsSameUpToOrder f after v)
comes_to f s t same text refusal after (inl long) = (t, inl long, λ none. absurd (refused_already refusal (TextTooLong (length text)) long.is none))
comes_to f s t same text refusal after (inr (inl unread)) = (t, inr (inl unread), λ none. absurd (refused_already refusal unread.cause unread.is none))
comes_to f s t same text refusal after (inr (inr d)) = let e = decided f s t same text refusal after d in (e.0, inr (inr e.1), e.2)

pub puts_free : (f : List ℕ → List ℕ) (text : List ℕ) → IsOrderFree f (PutsRevision f text)
puts_free f text s t o same puts =
    let e = comes_to f s t same text puts.refusal puts.after puts.decides in
    let line = id_line (f text) in (
      unless puts.refusal t e.0 line,
      record { refusal = puts.refusal; after = e.0; decides = e.1; is = refl },
      is_outcome f o (unless puts.refusal s puts.after line) (unless puts.refusal t e.0 line) puts.is (same_unless f s t same puts.refusal puts.after e.0 line e.2),
    )

-- A revision with one edge is refused for nothing but a collision, where its changes apply and the limits are kept.
use Rattle.std.specs.Prelude.{bytes_eq, nat_le}
use Rattle.std.proofs.Common.{◌≡◌, ◌<◌, ◌≤◌, ◌⊎◌, ℕ, Bool, true, false, cond, List, [], ◌∷◌, length, Option, Some, None, Ok, refl, sym, ◌∙◌, ap, subst, inl, inr, arith}
use Rattle.std.proofs.lemmas.Bool.Decides.{nat_tests}
use Rattle.std.proofs.lemmas.Slice.Eq.{bytes_eq-Decides}
use Rattle.mtn_base.specs.Hex.{id_of}
use Rattle.mtn_base.specs.declared.id.Id.{Id}
use Rattle.mtn_base.specs.declared.refusal.Cause.{Cause}
use Rattle.mtn_base.specs.declared.refusal.Cause.TheVariants.{Collision, LogFull, ManifestDiffers}
use Rattle.mtn_basic_io.specs.Spelling.{LineText, spelling}
use Rattle.mtn_changes.specs.declared.change.Edge.{Edge}
use Rattle.mtn_changes.specs.declared.change.Revision.{Revision as Spelled}
use Rattle.mtn_changes.specs.declared.error.ChangeTextError.TheVariants as error
use Rattle.mtn_changes.proofs.OneValue.{no_revision_fault, same_revision}
use Rattle.mtn_changeset_laws.specs.Laws.{IsFresh}
use Rattle.mtn_generated.specs.Growing.{GrowthAnswer, Grown, PutsEdge, PutsText, Unless, grown, grown_or}
use Rattle.mtn_generated.specs.Numbered.{Tips, Work, edge_fault, edge_of, edge_text, no_id, tips_after}
use Rattle.mtn_generated_trees.specs.Joined.{IsCollision}
use Rattle.mtn_history_laws.specs.History.{Revision}
use Rattle.mtn_manifest.specs.Manifest.{manifest_of}
use Rattle.mtn_model.specs.State.{State}
use Rattle.mtn_replay.specs.Accepting.{Decides, fault_cause, refusal_beside}
use Rattle.mtn_replay.specs.Lawful.{IsHistory, Spells}
use Rattle.mtn_replay.specs.Making.{bad_change, edge_tree, log_full, other_manifest, refusal_of, too_long, too_many, unknown_file, unknown_parent}
use Rattle.mtn_replay.specs.Texts.{text_under}
use Rattle.mtn_replay.proofs.Histories.{one_history}
use Rattle.mtn_replay.proofs.Places.{no_place}
use Rattle.mtn_replay.proofs.Steps.{join_none}
use Rattle.mtn_step_laws.proofs.Accepting.{text_none}

-- the revision that the text of an edge spells
abbrev pub read_of : (List ℕ → List ℕ) → List Revision → Edge → Spelled
read_of f h e = record { manifest = id_of (f (spelling (manifest_of (edge_tree h no_id e)))); edges = e ∷ [] }

-- an edge whose changes apply, of which nothing is wanting
pub record Applies (f : List ℕ → List ℕ) (s : State) (h : List Revision) (e : Edge) : Type 0 where
  pub parent : unknown_parent h (e ∷ []) ≡ None
  pub changes : bad_change h 1 (e ∷ []) ≡ None
  pub files : unknown_file s.files (e ∷ []) ≡ None
  pub spells : Spells (edge_text f h e) (read_of f h e)
  pub short : length (edge_text f h e) ≤ 67108864
  pub nodes : (x : Id) → IsFresh h x → too_many (edge_tree h x e) ≡ None
  pub paths : (x : Id) → IsFresh h x → too_long (edge_tree h x e) ≡ None
  pub manifest : manifest_of (edge_tree h (id_of (f (edge_text f h e))) e) ≡ manifest_of (edge_tree h no_id e)

abbrev pub IsPutOrCollides : GrowthAnswer → Type 0
IsPutOrCollides answer = ((g : Grown) × (answer ≡ Ok g)) ⊎ IsCollision answer

no_cause : (c : Cause) → fault_cause error.NoMemory ≡ Some c → ⊥
no_cause c e = cc

module _ (f : List ℕ → List ℕ) (s : State) (h : List Revision) (is : IsHistory f s.files s.log h) (room : length s.log < 2147483648) (work : Work) (tips : Tips) (n : ℕ)
    (applies : Applies f s h (edge_of f n work tips)) where
  abbrev e : Edge
  e = edge_of f n work tips

  abbrev text : List ℕ
  text = edge_text f h e

  abbrev new : Id
  new = id_of (f text)

  abbrev revision : Spelled
  revision = read_of f h e

  has_room : log_full h ≡ None
  has_room =
      let long = is.long in
      let test : nat_le 2147483648 (length h) ≡ false = grind (arith, nat_tests) in
      ap (λ t. cond t (Some (LogFull (length h))) None) test

  abbrev text_of : List (List LineText) → List ℕ
  text_of m = f (spelling m)

  named : other_manifest f (edge_tree h new e) revision.manifest ≡ None
  named =
      let same : text_of (manifest_of (edge_tree h new e)) ≡ text_of (manifest_of (edge_tree h no_id e)) = ap text_of applies.manifest in
      ap (λ t. cond t None (Some (ManifestDiffers (id_of (text_of (manifest_of (edge_tree h new e))))))) ((bytes_eq-Decides (text_of (manifest_of (edge_tree h new e))) (text_of (manifest_of (edge_tree h no_id e)))).1 same)

  not_refused : IsFresh h new → refusal_of f s.files h new revision ≡ None
  not_refused fresh =
      join_none (log_full h) _ has_room (join_none (unknown_parent h (e ∷ [])) _ applies.parent (join_none (bad_change h 1 (e ∷ [])) _ applies.changes
      (join_none (too_many (edge_tree h new e)) _ (applies.nodes new fresh) (join_none (too_long (edge_tree h new e)) _ (applies.paths new fresh)
      (join_none (unknown_file s.files (e ∷ [])) _ applies.files named)))))

  -- the refusal is a collision, or there is none
  abbrev IsFine : Option Cause → Type 0
  IsFine refusal = (refusal ≡ None) ⊎ (refusal ≡ Some (Collision new))

  beside : (o : Option (List ℕ)) → text_under s.log (f text) ≡ o → IsFine (refusal_beside o f s.files h text revision)
  beside None none = inl (not_refused (no_place h new (text_none f s.files s.log h new is none)))
  beside (Some held) some = by (bytes_eq held text)
    where
      by : (t : Bool) → IsFine (cond t None (Some (Collision new)))
      by true = inl refl
      by false = inr refl

  told : (refusal : Option Cause) (after : State) → Decides f s text refusal after → IsFine refusal
  told refusal after (inl long) = absurd (let much = long.long in let little = applies.short in omega (arith, much, little))
  told refusal after (inr (inl z)) = absurd (no_cause z.cause (ap fault_cause (sym (no_revision_fault text revision z.fault applies.spells.stanzas applies.spells.reads z.faulty)) ∙ z.named))
  told refusal after (inr (inr z)) =
      let read : z.read ≡ revision = same_revision text z.read revision z.spells.stanzas applies.spells.stanzas z.spells.reads applies.spells.reads in
      let one : z.history ≡ h = one_history f s.files s.log z.history h z.spelled is in
      subst IsFine (sym (z.is ∙ (λ x. refusal_beside (text_under s.log (f text)) f s.files (one x) text (read x)))) (beside (text_under s.log (f text)) refl)

  put : (answer : GrowthAnswer) → PutsText f work tips s text answer → IsPutOrCollides answer
  put answer p = by p.refusal (told p.refusal p.after p.decides) p.is
    where
      by : (refusal : Option Cause) → IsFine refusal → answer ≡ grown_or refusal (grown p.after (tips_after work new tips)) → IsPutOrCollides answer
      by refusal (inl none) a = inl (grown p.after (tips_after work new tips), a ∙ ap (λ r. grown_or r (grown p.after (tips_after work new tips))) none)
      by refusal (inr some) a = inr (new, a ∙ ap (λ r. grown_or r (grown p.after (tips_after work new tips))) some)

  fault : edge_fault h e ≡ None
  fault = join_none (unknown_parent h (e ∷ [])) (bad_change h 1 (e ∷ [])) applies.parent applies.changes

  pub edge_put : (answer : GrowthAnswer) → PutsEdge f work tips s n answer → IsPutOrCollides answer
  edge_put answer p =
      let one = one_history f s.files s.log p.history h p.spelled is in
      let puts = subst (λ g. Unless (edge_fault g e) (PutsText f work tips s (edge_text f g e)) answer) one p.puts in
      put answer (subst (λ (o : Option Cause). Unless o (PutsText f work tips s text) answer) fault puts)

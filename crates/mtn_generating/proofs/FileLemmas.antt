-- Texts that are kept as files, one after the other.
use Rattle.std.proofs.Common.{◌≡◌, ◌+◌, ℕ, List, [], ◌∷◌, ◌++◌, length, arith, append_assoc, Option, Some, None, Ok, Err, refl, sym, ap, ◌∙◌, subst}
use Rattle.std.proofs.lemmas.List.{append-nil}
use Rattle.mtn_base.specs.declared.id.Id.{Id}
use Rattle.mtn_base.specs.declared.refusal.Cause.{Cause}
use Rattle.mtn_changeset_laws.specs.Changes.{or_else}
use Rattle.mtn_generated.specs.Growing.{files_refusal, with_files}
use Rattle.mtn_history.specs.Files.{AcceptsFile}
use Rattle.mtn_history.specs.Stands.{IsDraft}
use Rattle.mtn_history.specs.declared.errors.HistoryError.{HistoryError}
use Rattle.mtn_history.specs.declared.errors.HistoryError.TheVariants.{Refused, Store}
use Rattle.mtn_history.specs.declared.pending.Pending.{Pending}
use Rattle.mtn_model.specs.State.{State}
use Rattle.mtn_model.specs.Table.{Contents}
use Rattle.mtn_replay.specs.Files.{file_refusal, with_file}
use Rattle.mtn_generating.specs.Generating.{PutsFiles}

or_none : (a b : Option Cause) → a ≡ None → or_else a b ≡ b
or_none None b none = refl
or_none (Some cause) b none = absurd cc

or_split : (a b : Option Cause) → or_else a b ≡ None → (a ≡ None) × (b ≡ None)
or_split None b none = (refl, none)
or_split (Some cause) b none = absurd cc

module _ (f : List ℕ → List ℕ) where
  pub files_more : (xs ys : List (List ℕ)) (s : State) → with_files f s (xs ++ ys) ≡ with_files f (with_files f s xs) ys
  files_more [] ys s = refl
  files_more (x ∷ xs) ys s = files_more xs ys (with_file f s x)

  pub refusal_more : (xs ys : List (List ℕ)) (s : State) → files_refusal f s xs ≡ None → files_refusal f s (xs ++ ys) ≡ files_refusal f (with_files f s xs) ys
  refusal_more [] ys s none = refl
  refusal_more (x ∷ xs) ys s none =
      let t = or_split (file_refusal f s x) (files_refusal f (with_file f s x) xs) none in
      or_none (file_refusal f s x) (files_refusal f (with_file f s x) (xs ++ ys)) t.0 ∙ refusal_more xs ys (with_file f s x) t.1

  -- a draft has these texts as files
  abbrev pub HasPut : Contents → State → List (List ℕ) → Pending → Type 0
  HasPut c s xs p = (files_refusal f s xs ≡ None) × IsDraft f c p (with_files f s xs)

  -- the front with one more text, and what is left then
  pub all_again : (texts front left rest : List (List ℕ)) (text : List ℕ) → front ++ left ≡ texts → left ≡ text ∷ rest → (front ++ text ∷ []) ++ rest ≡ texts
  all_again texts front left rest text all is = append_assoc front (text ∷ []) rest ∙ ap (λ (xs : List (List ℕ)). front ++ xs) (sym is) ∙ all

  -- one more text, behind those of a front and before those that are left
  module _ (c : Contents) (s : State) (texts front left rest : List (List ℕ)) (text : List ℕ) (all : front ++ left ≡ texts) (is : left ≡ text ∷ rest) (p : Pending) (so : HasPut c s front p) (after : Pending) where
    abbrev so_far : State
    so_far = with_files f s front

    about : texts ≡ front ++ text ∷ rest
    about = sym all ∙ ap (λ (xs : List (List ℕ)). front ++ xs) is

    pub one_put : (id : Id) → AcceptsFile f c so_far text (Ok id) after → HasPut c s (front ++ text ∷ []) after
    one_put id accepts = (
      refusal_more front (text ∷ []) s so.0 ∙ or_none (file_refusal f so_far text) None accepts.1,
      subst (IsDraft f c after) (sym (files_more front (text ∷ []) s)) accepts.2,
    )

    refused : (cause : Cause) → file_refusal f so_far text ≡ Some cause → files_refusal f s texts ≡ Some cause
    refused cause at =
        ap (files_refusal f s) about ∙ refusal_more front (text ∷ rest) s so.0
        ∙ ap (λ (o : Option Cause). or_else o (files_refusal f (with_file f so_far text) rest)) at

    pub not_put : (e : HistoryError) → AcceptsFile f c so_far text (Err e) after → PutsFiles f c s texts (Err e) after
    not_put (Refused cause) accepts = refused cause accepts
    not_put (Store e) accepts = accepts

  pub all_put : (c : Contents) (s : State) (texts front left : List (List ℕ)) (p : Pending) → front ++ left ≡ texts → length left ≡ 0 → HasPut c s front p → PutsFiles f c s texts (Ok tt) p
  all_put c s texts front [] p all none so = subst (λ (xs : List (List ℕ)). HasPut c s xs p) (sym (append-nil front) ∙ all) so
  all_put c s texts front (x ∷ left) p all none so = absurd (omega (arith, none))

-- so many are left
pub one_less : (left rest : List (List ℕ)) (text : List ℕ) (n m : ℕ) → n ≡ length left → left ≡ text ∷ rest → m + 1 ≡ n → m ≡ length rest
one_less left rest text n m long is less = omega (arith, long, ap length is, less)

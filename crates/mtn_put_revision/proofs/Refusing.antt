-- The first refusal of a tree that is made.
use Rattle.std.specs.Prelude.{find, is_none, not, bytes_eq, option_map}
use Rattle.std.specs.FinMap.{get}
use Rattle.std.proofs.Common.{◌≡◌, ℕ, Bool, true, false, cond, List, Option, Some, None, refl, sym, ap, ◌∙◌}
use Rattle.mtn_base.specs.Hex.{id_of}
use Rattle.mtn_base.specs.declared.id.Id.{Id}
use Rattle.mtn_base.specs.declared.refusal.Cause.{Cause}
use Rattle.mtn_base.specs.declared.refusal.Cause.TheVariants.{UnknownFile, ManifestDiffers}
use Rattle.mtn_basic_io.specs.Spelling.{spelling}
use Rattle.mtn_changes.specs.declared.change.Revision.{Revision as Spelled}
use Rattle.mtn_changeset_laws.specs.Changes.{or_else}
use Rattle.mtn_history_laws.specs.History.{Revision}
use Rattle.mtn_replay.specs.Lawful.{IsNext}
use Rattle.mtn_replay.specs.Making.{made, made_tree, new_contents, bad_change, bad_join, too_many, too_long, unknown_file, other_manifest, log_full, unknown_parent}
use Rattle.mtn_replay.proofs.Steps.{join_none}
use Rattle.mtn_make_roster.specs.Basis.{made_refusal}
use Rattle.mtn_manifest.specs.Manifest.{manifest_of}
use Rattle.mtn_model.specs.Table.{Table}
use Rattle.mtn_roster.specs.Tree.{Tree}
use Rattle.mtn_put_revision.specs.Finding.{made_refusal_of, text_refusal}
use Rattle.mtn_put_revision.specs.Keeping.{IsNew}
use Rattle.mtn_put_revision.specs.declared.over.NewRevision.{NewRevision}

six : {X : Type 0} (a b c d rest : Option X) → or_else (or_else a b) (or_else c d) ≡ None → or_else a (or_else b (or_else c (or_else d rest))) ≡ rest
six None None None None rest e = refl
six None None None (Some x) rest e = absurd cc
six None None (Some x) d rest e = absurd cc
six None (Some x) c d rest e = absurd cc
six (Some x) b c d rest e = absurd cc

four : {X : Type 0} (a b c d rest : Option X) (x : X) → or_else (or_else a b) (or_else c d) ≡ Some x → or_else a (or_else b (or_else c (or_else d rest))) ≡ Some x
four None None None None rest x e = absurd cc
four None None None (Some y) rest x e = e
four None None (Some y) d rest x e = e
four None (Some y) c d rest x e = e
four (Some y) b c d rest x e = e

back_four : {X : Type 0} (a b c d rest : Option X) → or_else a (or_else b (or_else c (or_else d rest))) ≡ None → or_else (or_else a b) (or_else c d) ≡ None
back_four None None None None rest e = refl
back_four None None None (Some x) rest e = absurd cc
back_four None None (Some x) d rest e = absurd cc
back_four None (Some x) c d rest e = absurd cc
back_four (Some x) b c d rest e = absurd cc

module _ (f : List ℕ → List ℕ) (files : Table) (h : List Revision) (new : Id) (r : Spelled) where
  pub made_first : (cause : Cause) → made_refusal h new r.edges ≡ Some cause → made_refusal_of f files h new r ≡ Some cause
  made_first cause e = four (bad_change h 1 r.edges) (bad_join h new r.edges) (too_many (made_tree h new r.edges)) (too_long (made_tree h new r.edges)) _ cause e

  pub made_past : made_refusal h new r.edges ≡ None → made_refusal_of f files h new r ≡ or_else (unknown_file files r.edges) (other_manifest f (made_tree h new r.edges) r.manifest)
  made_past e = six (bad_change h 1 r.edges) (bad_join h new r.edges) (too_many (made_tree h new r.edges)) (too_long (made_tree h new r.edges)) _ e

  pub made_back : made_refusal_of f files h new r ≡ None → made_refusal h new r.edges ≡ None
  made_back e = back_four (bad_change h 1 r.edges) (bad_join h new r.edges) (too_many (made_tree h new r.edges)) (too_long (made_tree h new r.edges)) _ e

  -- what is left is the text's
  pub made_left : (t : Tree) → made_refusal h new r.edges ≡ None → t ≡ made_tree h new r.edges → made_refusal_of f files h new r ≡ text_refusal f files r t
  made_left t e is = made_past e ∙ ap (text_refusal f files r) (sym is)

module _ (f : List ℕ → List ℕ) (files : Table) (r : Spelled) (t : Tree) where
  -- a content that is not held
  pub unheld : (id : Id) → Some id ≡ find (λ (i : Id). is_none (get files i.0)) (new_contents r.edges) → text_refusal f files r t ≡ Some (UnknownFile id)
  unheld id found = ap (λ o. or_else (option_map UnknownFile o) (other_manifest f t r.manifest)) (sym found)

  all_held : None ≡ find (λ (i : Id). is_none (get files i.0)) (new_contents r.edges) → text_refusal f files r t ≡ other_manifest f t r.manifest
  all_held held = ap (λ o. or_else (option_map UnknownFile o) (other_manifest f t r.manifest)) (sym held)

  module _ (computed : Id) (held : None ≡ find (λ (i : Id). is_none (get files i.0)) (new_contents r.edges)) (computes : computed.0 ≡ f (spelling (manifest_of t))) where
    named : text_refusal f files r t ≡ (cond (bytes_eq computed.0 r.manifest.0) None (Some (ManifestDiffers computed)))
    named = all_held held ∙ ap (λ (bytes : List ℕ). cond (bytes_eq bytes r.manifest.0) None (Some (ManifestDiffers (id_of bytes)))) (sym computes)

    -- another manifest
    pub differs : bytes_eq computed.0 r.manifest.0 ≡ false → text_refusal f files r t ≡ Some (ManifestDiffers computed)
    differs other = named ∙ ap (λ b. cond b None (Some (ManifestDiffers computed))) other

    pub fine : bytes_eq computed.0 r.manifest.0 ≡ true → text_refusal f files r t ≡ None
    fine same = named ∙ ap (λ b. cond b None (Some (ManifestDiffers computed))) same

-- what a test of two ids tells of their bytes
pub not_same : (a b : Id) (test told : Bool) → test ≡ not (bytes_eq a.0 b.0) → test ≡ told → bytes_eq a.0 b.0 ≡ not told
not_same a b test told is e = by (bytes_eq a.0 b.0) told (sym is ∙ e)
  where
    by : (x y : Bool) → not x ≡ y → x ≡ not y
    by true true h = absurd cc
    by true false h = refl
    by false true h = refl
    by false false h = absurd cc

-- a new text that nothing refuses is the next of the log
pub next_of_new : (f : List ℕ → List ℕ) (files : Table) (h : List Revision) (fresh : NewRevision) → IsNew f h fresh → made_refusal_of f files h fresh.id fresh.read.now ≡ None →
    IsNext f files h (record { id = fresh.id.0; text = fresh.text.now }) (made h fresh.id fresh.read.now.edges)
next_of_new f files h fresh new fine = record {
  short = new.short;
  id = new.id;
  fresh = new.new;
  read = fresh.read.now;
  spells = new.spells;
  accepted = join_none (log_full h) _ new.room (join_none (unknown_parent h fresh.read.now.edges) _ new.known fine);
  made = refl;
}

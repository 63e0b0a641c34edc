-- Whether a stanza spells a change, or a head, can be told.
use Rattle.std.proofs.Common.{◌≡◌, List, Option, Some, None, refl, sym, ap, ◌∙◌, subst}
use Rattle.mtn_basic_io.specs.Spelling.{LineText}
use Rattle.mtn_changes.specs.declared.change.Change.{Change}
use Rattle.mtn_changes.specs.declared.change.Change.TheVariants.{Delete, Rename, AddDir, AddFile, Patch, Clear, Set}
use Rattle.mtn_changes.specs.declared.head.Head.{Head}
use Rattle.mtn_changes.specs.Changes.{IsChange}
use Rattle.mtn_changes.specs.Heads.{head_stanza, IsHeadRead}
use Rattle.mtn_changes.specs.Stanzas.{stanza_of, IsRead}
use Rattle.mtn_answers.proofs.Deciding.{tell_two}
use Rattle.mtn_merge_laws.proofs.Telling.{tell_comps, tell_key, tell_stanza}
use Rattle.mtn_step_laws.proofs.Decoding.{change_in, change_back, head_in, head_back}

tell_change : (c : Change) → Dec (IsChange c)
tell_change (Delete path) = tell_comps path
tell_change (Rename path to) = tell_two (tell_comps path) (tell_comps to)
tell_change (AddDir path) = tell_comps path
tell_change (AddFile path content) = tell_comps path
tell_change (Patch path from to) = tell_comps path
tell_change (Clear path key) = tell_two (tell_comps path) (tell_key key)
tell_change (Set path key value) = tell_two (tell_comps path) (tell_key key)

-- ---- stanzas

-- the change of a stanza, or that it spells none
pub read_change : (s : List LineText) → (o : Option Change) × IsRead s o
read_change s = by (change_in s) refl
  where
    none : (o : Option Change) → change_in s ≡ o → ((c : Change) → o ≡ Some c → IsChange c → s ≡ stanza_of c → ⊥) → IsRead s None
    none o e never c is same = never c (sym e ∙ ap change_in same ∙ change_back c is) is same

    by : (o : Option Change) → change_in s ≡ o → (o : Option Change) × IsRead s o
    by None e = (None, none None e (λ c f is same. cc))
    by (Some c) e = elim (tell_two (tell_change c) (tell_stanza s (stanza_of c))) [
      | yes t ↦ (Some c, (t.0, t.1))
      | no n ↦ (None, none (Some c) e (λ d f is same. let g : c ≡ d = cc in n (subst IsChange (sym g) is, same ∙ ap stanza_of (sym g))))
    ]

-- the head of a stanza, or that it spells none
pub read_head : (s : List LineText) → (o : Option Head) × IsHeadRead s o
read_head s = by (head_in s) refl
  where
    none : (o : Option Head) → head_in s ≡ o → ((h : Head) → o ≡ Some h → s ≡ head_stanza h → ⊥) → IsHeadRead s None
    none o e never h same = never h (sym e ∙ ap head_in same ∙ head_back h) same

    by : (o : Option Head) → head_in s ≡ o → (o : Option Head) × IsHeadRead s o
    by None e = (None, none None e (λ h f same. cc))
    by (Some h) e = elim (tell_stanza s (head_stanza h)) [
      | yes same ↦ (Some h, same)
      | no n ↦ (None, none (Some h) e (λ k f same. let g : h ≡ k = cc in n (same ∙ ap head_stanza (sym g))))
    ]

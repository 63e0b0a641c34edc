-- Logs with the same pairs have the same text under an id.
use Rattle.std.specs.Prelude.{Contains, find, option_map, slice_get}
use Rattle.std.proofs.Common.{◌≡◌, ℕ, List, true, false, true≢false, Option, Some, None, refl, sym, ap, ◌∙◌}
use Rattle.mtn_base.specs.Hex.{id_of}
use Rattle.mtn_history_laws.specs.History.{Revision}
use Rattle.mtn_replay.specs.Texts.{text_under}
use Rattle.mtn_replay.specs.Lawful.{IsHistory}
use Rattle.mtn_model.specs.State.{Logged}
use Rattle.mtn_model.specs.Table.{Table}
use Rattle.mtn_renaming.specs.Order.{HaveSameTexts}
use Rattle.mtn_renaming.proofs.Elements.{at_contains, found_at, none_passes}
use Rattle.mtn_renaming.proofs.Spelling.{ids_differ, named, revision_at}
use Rattle.mtn_step_laws.proofs.Accepting.{is_under, under}

module _ (f : List ℕ → List ℕ) (files : Table) (b : List Logged) (g : List Revision) (is : IsHistory f files b g) where
  -- two texts of a log under one id are one
  one_text : (l m : Logged) → Contains b l → Contains b m → l.id ≡ m.id → l ≡ m
  one_text l m c d same =
      let j = at_contains b l c in
      let k = at_contains b m d in
      let v = revision_at f files b g is j.0 l j.1 in
      let w = revision_at f files b g is k.0 m k.1 in
      let place : j.0 ≡ k.0 = ids_differ f files b g is (id_of l.id) j.0 k.0 (v.0, v.1, named f files _ l v.0 v.2) (w.0, w.1, named f files _ m w.0 w.2 ∙ ap id_of (sym same)) in
      let both : Some l ≡ Some m = sym j.1 ∙ ap (slice_get b) place ∙ k.1 in
      cc

  pub same_text : (a : List Logged) (id : List ℕ) → HaveSameTexts a b → text_under b id ≡ text_under a id
  same_text a id same = by (find (is_under id) a) refl (find (is_under id) b) refl
    where
      by : (o : Option Logged) → find (is_under id) a ≡ o → (p : Option Logged) → find (is_under id) b ≡ p → text_under b id ≡ text_under a id
      by None none None also = ap (option_map (λ (l : Logged). l.text)) (also ∙ sym none)
      by None none (Some m) some =
          let found = found_at (is_under id) b m some in
          absurd (true≢false (sym found.1 ∙ none_passes (is_under id) a m none ((same m).1 found.0)))
      by (Some l) some None none =
          let found = found_at (is_under id) a l some in
          absurd (true≢false (sym found.1 ∙ none_passes (is_under id) b l none ((same l).0 found.0)))
      by (Some l) some (Some m) also =
          let x = found_at (is_under id) a l some in
          let y = found_at (is_under id) b m also in
          let one : m ≡ l = one_text m l y.0 ((same l).0 x.0) (under id m y.1 ∙ sym (under id l x.1)) in
          ap (option_map (λ (k : Logged). k.text)) (also ∙ ap Some one ∙ sym some)

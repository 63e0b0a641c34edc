-- Stanzas behind stanzas, made of what stands behind references.
use Rattle.std.specs.Prelude.{map}
use Rattle.std.proofs.Common.{◌≡◌, ◌<◌, ◌+◌, ℕ, List, ◌++◌, length, get_or, take, sym, ap, ◌∙◌, subst}
use Rattle.std.proofs.Math.Seq.{take-length}
use Rattle.mtn_base.proofs.Sorting.{at_map, long_map}
use Rattle.mtn_basic_io.specs.Spelling.{LineText, line_between, spelling, stanza_text}
use Rattle.mtn_basic_io.proofs.Printed.{put_behind}

module _ {B X : Type 0} (now : B → X) (f : X → List LineText) where
  abbrev stanzas : List B → List (List LineText)
  stanzas bs = map f (map now bs)

  as_many : (bs : List B) → length (stanzas bs) ≡ length bs
  as_many bs = long_map f (map now bs) ∙ long_map now bs

  -- one more stanza is written
  pub stanza_more : (bs : List B) (i : ℕ) (b : B) (start before after : List ℕ) → i < length bs → b ≡ get_or bs i b →
      before ≡ start ++ spelling (take i (stanzas bs)) → after ≡ before ++ (line_between i ++ stanza_text (f (now b))) → after ≡ start ++ spelling (take (i + 1) (stanzas bs))
  stanza_more bs i b start before after lt at so_far more =
      put_behind (stanzas bs) i (f (now b)) start before after
      (subst (λ n. i < n) (sym (as_many bs)) lt)
      (ap (λ z. f (now z)) at ∙ sym (at_map f (map now bs) i (now b) ∙ ap f (at_map now bs i b)))
      so_far more

  -- all are
  pub all_stanzas : (bs : List B) (i : ℕ) (start now_text : List ℕ) → i ≡ length bs → now_text ≡ start ++ spelling (take i (stanzas bs)) → now_text ≡ start ++ spelling (stanzas bs)
  all_stanzas bs i start now_text is so_far =
      so_far ∙ ap (λ n. start ++ spelling (take n (stanzas bs))) (is ∙ sym (as_many bs)) ∙ ap (λ l. start ++ spelling l) (take-length (stanzas bs))

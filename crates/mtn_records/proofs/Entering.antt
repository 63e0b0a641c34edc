-- What a front of bytes spells of an entry.
use Rattle.std.proofs.Common.{◌≡◌, sym, ap, ◌∙◌, subst, ℕ, Bool, List, [], ◌++◌}
use Rattle.std.proofs.lemmas.List.{append_assoc}
use Rattle.mtn_records.specs.declared.entry.NumberedAttr.{NumberedAttr}
use Rattle.mtn_records.specs.declared.entry.NumberedBody.{NumberedBody}
use Rattle.mtn_records.specs.declared.entry.NumberedEntry.{NumberedEntry}
use Rattle.mtn_records.specs.Fields.{AreApart, Begins, BeginsWithNone, list_text, IsList, pair_text, IsPair}
use Rattle.mtn_records.specs.Apart.{list_apart, pair_apart}
use Rattle.mtn_records.specs.Entries.{attr_text, IsAttr, body_text, IsBodyOf, head_text, entry_text, IsEntry, KeysAscend}
use Rattle.mtn_records.specs.EntriesApart.{HeadParts, head_parts, parts_text, AreParts, parts_apart, body_apart, attr_apart, with_parts}

abbrev pub Contents : Type 0
Contents = NumberedBody × List NumberedAttr

-- the body and the attributes
abbrev pub contents : NumberedEntry → Contents
contents v = (v.body, v.attrs)

abbrev pub contents_text : Contents → List ℕ
contents_text = pair_text body_text (list_text attr_text)

abbrev pub AreContents : Bool → Contents → Type 0
AreContents file = IsPair (IsBodyOf file) (IsList IsAttr)

contents_apart : (file : Bool) → AreApart contents_text (AreContents file)
contents_apart file = pair_apart body_text (IsBodyOf file) (list_text attr_text) (IsList IsAttr) (body_apart file) (list_apart attr_text IsAttr attr_apart)

split : (v : NumberedEntry) (r : List ℕ) → entry_text v ++ r ≡ head_text v ++ (contents_text (contents v) ++ r)
split v r = append_assoc (head_text v) (contents_text (contents v)) r

pub none_by_head : (bytes : List ℕ) → BeginsWithNone parts_text AreParts bytes → BeginsWithNone entry_text IsEntry bytes
none_by_head bytes none v r form e = none (head_parts v) (contents_text (contents v) ++ r) form.head (e ∙ split v r)

module _ (bytes rest : List ℕ) (p : HeadParts) (head : Begins parts_text AreParts bytes p rest) where
  -- any entry there has this head
  heads : (v : NumberedEntry) (r : List ℕ) → IsEntry v → bytes ≡ entry_text v ++ r → (p ≡ head_parts v) × (rest ≡ contents_text (contents v) ++ r)
  heads v r form e = parts_apart p (head_parts v) rest (contents_text (contents v) ++ r) head.formed form.head (sym head.whole ∙ e ∙ split v r)

  -- and contents of its kind
  formed_there : (v : NumberedEntry) → IsEntry v → p ≡ head_parts v → AreContents p.1.1.1.0 (contents v)
  formed_there v form same = ((sym (ap (λ (q : HeadParts). q.1.1.1.0) same), form.body), form.attrs)

  pub none_by_contents : BeginsWithNone contents_text (AreContents p.1.1.1.0) rest → BeginsWithNone entry_text IsEntry bytes
  none_by_contents none v r form e =
      let both = heads v r form e in
      none (contents v) r (formed_there v form both.0) both.1

  module _ (parts : Contents) (end : List ℕ) (behind : Begins contents_text (AreContents p.1.1.1.0) rest parts end) where
    -- any entry there is the one that was read
    entry_is : (v : NumberedEntry) (r : List ℕ) → IsEntry v → bytes ≡ entry_text v ++ r → v ≡ with_parts p parts.0 parts.1
    entry_is v r form e =
        let both = heads v r form e in
        let same = contents_apart p.1.1.1.0 parts (contents v) end r behind.formed (formed_there v form both.0) (sym behind.whole ∙ both.1) in
        sym (ap (λ (q : HeadParts). with_parts q parts.0 parts.1) both.0 ∙ ap (λ (c : Contents). with_parts (head_parts v) c.0 c.1) same.0)

    kinds : p ≡ head_parts (with_parts p parts.0 parts.1)
    kinds = ap (λ (k : Bool). (p.0, (p.1.0, (p.1.1.0, (k, p.1.1.1.1))))) (sym behind.formed.0.0)

    -- and its text stands there
    whole_is : bytes ≡ entry_text (with_parts p parts.0 parts.1) ++ end
    whole_is =
        head.whole ∙ ap (λ (x : List ℕ). parts_text p ++ x) behind.whole
        ∙ ap (λ (q : HeadParts). parts_text q ++ (contents_text parts ++ end)) kinds ∙ sym (split (with_parts p parts.0 parts.1) end)

    pub begins : (p.1.1.1.1.0 ≡ 0 → p.1.1.1.1.1.0 ≡ []) → KeysAscend parts.1 → Begins entry_text IsEntry bytes (with_parts p parts.0 parts.1) end
    begins root keys = record { formed = record { head = head.formed; body = behind.formed.0.1; attrs = behind.formed.1; root = root; keys = keys }; whole = whole_is }

    -- where the entry that was read is none, none is there
    pub none_by_form : (IsEntry (with_parts p parts.0 parts.1) → ⊥) → BeginsWithNone entry_text IsEntry bytes
    none_by_form no_entry v r form e = no_entry (subst IsEntry (entry_is v r form e) form)

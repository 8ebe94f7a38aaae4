-- The fields of a list: entries and blocks, one after another.
use Rattle.std.proofs.Common.{◌≡◌, ℕ, true, false, List, [], ◌∷◌, ◌++◌, filter_map, Option, Some, None, Ok, refl, sym, ap, subst, ◌∙◌, ◌⊎◌, inl, inr, append_assoc}
use Rattle.std.specs.Prelude.{◌==◌}
use Rattle.std.proofs.lemmas.Bool.{eqb-true, or_cases, both_ways}
use Rattle.std.proofs.lemmas.List.{append-nil}
use Rattle.obf_wire.specs.declared.field.Field.{Field}
use Rattle.obf_wire.specs.Fields.{Window, IsWindow, is_among, part_of}
use Rattle.file_grammar.specs.declared.parts.Content.{Content}
use Rattle.file_grammar.specs.declared.parts.Content.TheVariants.{Bytes, Message}
use Rattle.file_grammar.specs.declared.parts.Part.{Part}
use Rattle.file_grammar.specs.declared.parts.Part.TheVariants.{KeyEntry as EntryPart, Keyed as ListPart, KeyedBlock as BlockPart}
use Rattle.file_grammar.specs.declared.parts.Version.{Version}
use Rattle.file_grammar.specs.AddressRules.{KeyEntry, KeyedBlock, KeyedList, entry_with, keyed_list, messages_of}
use Rattle.file_grammar.specs.Messages.{Fields, ends, has_number, has_bytes, has_numbers, has_message}
use Rattle.file_grammar.specs.Readings.{message_at, payload_of}
use Rattle.file_grammar.specs.Sections.{Placed, placed}
use Rattle.file_grammar.specs.Tables.{content_of, next_keys}
use Rattle.file_grammar.specs.Walks.{HoldsMessage, IsNext, Standing, left_in}
use Rattle.file_grammar.proofs.FileShape.{BeginsBytes, begins_bytes}
use Rattle.file_grammar.proofs.Shaped.{BeginsNumber, Comes, HoldsNumber, HoldsNumbers, IsShaped, begins_number, shaped}
use Rattle.boxed_exact.specs.declared.fields.Payload.{Payload}
use Rattle.addr_section.specs.declared.kept.EntryKept.{EntryKept}
use Rattle.addr_section.specs.declared.kept.ListKept.{ListKept}
use Rattle.addr_section.specs.Kept.{AreBlocksKept, AreEntriesKept, IsBlockKept, IsEntryKept, IsListKept, addresses_within}
use Rattle.addr_section.specs.Layout.{IsFieldPut}

-- ---- the shape

-- an entry or a block
abbrev pub IsOne : Version → ℕ → Fields → Type 0
IsOne version key inner = ((key ≡ 10) × IsShaped EntryPart None inner) ⊎ ((key ≡ 22) × IsShaped (BlockPart version) None inner)

abbrev pub AreListed : Version → Fields → Type 0
AreListed version ends = Unit {0}
AreListed version (has_message at key inner rest) = IsOne version key inner × AreListed version rest
AreListed version fields = ⊥

-- entries and blocks, or blocks alone, may come
abbrev MayBe : Version → Option ℕ → Type 0
MayBe version last = (next_keys (ListPart version) last ≡ 10 ∷ 22 ∷ []) ⊎ (next_keys (ListPart version) last ≡ 22 ∷ [])

one_of_two : (key : ℕ) → is_among (10 ∷ 22 ∷ []) key ≡ true → (key ≡ 10) ⊎ (key ≡ 22)
one_of_two key e = elim (or_cases (10 == key) (is_among (22 ∷ []) key) e) [
  | inl h ↦ inl (sym (eqb-true 10 key h))
  | inr h ↦ elim (or_cases (22 == key) false h) [ inl i ↦ inr (sym (eqb-true 22 key i)) | inr i ↦ absurd (both_ways false refl i) ]
]

one_of_one : (key : ℕ) → is_among (22 ∷ []) key ≡ true → (key ≡ 10) ⊎ (key ≡ 22)
one_of_one key e = elim (or_cases (22 == key) false e) [ inl i ↦ inr (sym (eqb-true 22 key i)) | inr i ↦ absurd (both_ways false refl i) ]

key_is : (version : Version) (last : Option ℕ) (key : ℕ) → MayBe version last → Comes (ListPart version) last key → (key ≡ 10) ⊎ (key ≡ 22)
key_is version last key (inl e) comes = one_of_two key (subst (λ (keys : List ℕ). is_among keys key ≡ true) e comes)
key_is version last key (inr e) comes = one_of_one key (subst (λ (keys : List ℕ). is_among keys key ≡ true) e comes)

abbrev holds : Content → Option Content
holds content = Some content

same_part : (p q : Part) → holds (Message p) ≡ holds (Message q) → p ≡ q
same_part p q e = cc

are_listed : (version : Version) (last : Option ℕ) (fields : Fields) → MayBe version last → IsShaped (ListPart version) last fields → AreListed version fields
unfolding IsShaped
are_listed version last ends may s = tt
are_listed version last (has_number at key value rest) may s = elim (key_is version last key may s.0) [
  | inl e ↦ absurd (subst (λ (k : ℕ). HoldsNumber (content_of (ListPart version) k)) e s.1)
  | inr e ↦ absurd (subst (λ (k : ℕ). HoldsNumber (content_of (ListPart version) k)) e s.1)
]
are_listed version last (has_numbers at key values rest) may s = elim (key_is version last key may s.0) [
  | inl e ↦ absurd (subst (λ (k : ℕ). HoldsNumbers (content_of (ListPart version) k)) e s.1)
  | inr e ↦ absurd (subst (λ (k : ℕ). HoldsNumbers (content_of (ListPart version) k)) e s.1)
]
are_listed version last (has_bytes at key text rest) may s = elim (key_is version last key may s.0) [
  | inl e ↦ let a : holds (Message EntryPart) ≡ holds Bytes = subst (λ (k : ℕ). content_of (ListPart version) k ≡ Some Bytes) e s.1 in absurd cc
  | inr e ↦ let a : holds (Message (BlockPart version)) ≡ holds Bytes = subst (λ (k : ℕ). content_of (ListPart version) k ≡ Some Bytes) e s.1 in absurd cc
]
are_listed version last (has_message at key inner rest) may s = elim (key_is version last key may s.0) [
  | inl e ↦
      let a : holds (Message EntryPart) ≡ holds (Message s.1.0) = subst (λ (k : ℕ). content_of (ListPart version) k ≡ Some (Message s.1.0)) e s.1.1 in
      (inl (e, subst (λ (p : Part). IsShaped p None inner) (sym (same_part EntryPart s.1.0 a)) s.1.2), are_listed version (Some 10) rest (inl refl) (subst (λ (k : ℕ). IsShaped (ListPart version) (Some k) rest) e s.2))
  | inr e ↦
      let a : holds (Message (BlockPart version)) ≡ holds (Message s.1.0) = subst (λ (k : ℕ). content_of (ListPart version) k ≡ Some (Message s.1.0)) e s.1.1 in
      (inr (e, subst (λ (p : Part). IsShaped p None inner) (sym (same_part (BlockPart version) s.1.0 a)) s.1.2), are_listed version (Some 22) rest (inr refl) (subst (λ (k : ℕ). IsShaped (ListPart version) (Some k) rest) e s.2))
]

pub record IsEntryMessage (fields : Fields) : Type 0 where
  pub a : ℕ
  pub first : List ℕ
  pub b : ℕ
  pub last : List ℕ
  pub c : ℕ
  pub place : ℕ
  pub rest : Fields
  pub is : fields ≡ has_bytes a 10 first (has_bytes b 18 last (has_number c 24 place rest))

pub entry_message : (fields : Fields) → IsShaped EntryPart None fields → IsEntryMessage fields
entry_message fields s =
    let one : BeginsBytes EntryPart 10 fields = begins_bytes EntryPart None 10 fields refl refl refl s in
    let two : BeginsBytes EntryPart 18 one.rest = begins_bytes EntryPart (Some 10) 18 one.rest refl refl refl one.shaped in
    let three : BeginsNumber EntryPart 24 two.rest = begins_number EntryPart (Some 18) 24 two.rest refl refl refl two.shaped in
    record {
      a = one.at;
      first = one.text;
      b = two.at;
      last = two.text;
      c = three.at;
      place = three.value;
      rest = three.rest;
      is = one.is ∙ ap (has_bytes one.at 10 one.text) (two.is ∙ ap (has_bytes two.at 18 two.text) three.is);
    }

-- ---- what a field holds

held : (version : Version) (k : ℕ) (inner_part : Part) (s : Standing) (f : Field) (inner : Fields) → content_of (ListPart version) k ≡ holds (Message inner_part) → s.part ≡ ListPart version → f.key ≡ k → HoldsMessage s f inner → message_at inner_part (payload_of s.window.bytes f) ≡ Ok inner
held version k inner_part s f inner row is key h =
    let c : content_of (ListPart version) k ≡ holds (Message h.part) = subst (λ (p : Part). content_of p k ≡ holds (Message h.part)) is (subst (λ (n : ℕ). content_of s.part n ≡ holds (Message h.part)) key h.content) in
    subst (λ (p : Part). message_at p (payload_of s.window.bytes f) ≡ Ok inner) (sym (same_part inner_part h.part (sym row ∙ c))) h.read

-- ---- one after another

abbrev entries_of : Fields → List KeyEntry
entries_of fields = (keyed_list fields).entries

abbrev blocks_of : Fields → List KeyedBlock
blocks_of fields = (keyed_list fields).blocks

-- the fields that are left, beside those that stand so
pub record ListLeft (version : Version) (bytes : List ℕ) (all : Fields) (kept : ListKept) (s : Standing) : Type 0 where
  pub rest : Fields
  pub left : left_in s ≡ Ok rest
  pub are : AreListed version rest
  pub entries : List KeyEntry
  pub blocks : List KeyedBlock
  pub entries_are : entries_of all ≡ entries ++ entries_of rest
  pub blocks_are : blocks_of all ≡ blocks ++ blocks_of rest
  pub entries_kept : AreEntriesKept bytes kept.entries.items entries
  pub blocks_kept : AreBlocksKept version bytes kept.blocks.items blocks

pub list_begin : (version : Version) (bytes : List ℕ) (all : Fields) (kept : ListKept) (w : Window) (s : Standing) → s ≡ record { part = ListPart version; last = None; window = w } → kept.entries.items ≡ [] → kept.blocks.items ≡ [] → message_at (ListPart version) w ≡ Ok all
    → ListLeft version bytes all kept s
list_begin version bytes all kept w s is entries blocks e = record {
  rest = all;
  left = subst (λ (s : Standing). left_in s ≡ Ok all) (sym is) e;
  are = are_listed version None all (inl refl) (shaped (ListPart version) w all e);
  entries = [];
  blocks = [];
  entries_are = refl;
  blocks_are = refl;
  entries_kept = subst (λ (es : List EntryKept). AreEntriesKept bytes es []) (sym entries) tt;
  blocks_kept = subst (λ (bs : List Payload). AreBlocksKept version bytes bs []) (sym blocks) tt;
}

pub entry_more : (bytes : List ℕ) (kept : List EntryKept) (entries : List KeyEntry) (one : EntryKept) (entry : KeyEntry) → AreEntriesKept bytes kept entries → IsEntryKept bytes one entry → AreEntriesKept bytes (kept ++ one ∷ []) (entries ++ entry ∷ [])
entry_more bytes [] [] one entry are is = (is, tt)
entry_more bytes [] (e ∷ es) one entry are is = absurd are
entry_more bytes (k ∷ ks) [] one entry are is = absurd are
entry_more bytes (k ∷ ks) (e ∷ es) one entry are is = (are.0, entry_more bytes ks es one entry are.1 is)

pub block_more : (version : Version) (bytes : List ℕ) (kept : List Payload) (blocks : List KeyedBlock) (one : Payload) (block : KeyedBlock) → AreBlocksKept version bytes kept blocks → IsBlockKept version bytes one block → AreBlocksKept version bytes (kept ++ one ∷ []) (blocks ++ block ∷ [])
block_more version bytes [] [] one block are is = (is, tt)
block_more version bytes [] (b ∷ bs) one block are is = absurd are
block_more version bytes (k ∷ ks) [] one block are is = absurd are
block_more version bytes (k ∷ ks) (b ∷ bs) one block are is = (are.0, block_more version bytes ks bs one block are.1 is)

pub kept_one : {A B : Type 0} (f : A → Option B) (x : A) (xs : List A) (y : B) → f x ≡ Some y → filter_map f (x ∷ xs) ≡ y ∷ filter_map f xs
kept_one f x xs y e = rw e refl

step : (version : Version) (bytes : List ℕ) (all : Fields) (kept new : ListKept) (s behind : Standing) (f : Field) (rest : Fields) (l : ListLeft version bytes all kept s) → l.rest ≡ rest → s.part ≡ ListPart version → s.window.bytes ≡ bytes → IsNext s behind f rest
    → IsWindow (part_of bytes f.from f.to) → IsFieldPut bytes f kept new → ListLeft version bytes all new behind
step version bytes all kept new s behind f ends l is part same n inside put = absurd n
step version bytes all kept new s behind f (has_number at k value rest) l is part same n inside put = absurd (subst (AreListed version) is l.are)
step version bytes all kept new s behind f (has_bytes at k value rest) l is part same n inside put = absurd (subst (AreListed version) is l.are)
step version bytes all kept new s behind f (has_numbers at k value rest) l is part same n inside put = absurd (subst (AreListed version) is l.are)
step version bytes all kept new s behind f (has_message at k inner rest) l is part same n inside put = one (subst (AreListed version) is l.are)
  where
    one : AreListed version (has_message at k inner rest) → ListLeft version bytes all new behind
    one (inl e, more) =
        let key : f.key ≡ 10 = n.1 ∙ e.0 in
        let m : IsEntryMessage inner = entry_message inner e.1 in
        let entry : KeyEntry = record { at = at; first = placed m.a m.first; last = placed m.b m.last; place = placed m.c m.place } in
        let it : entry_with at inner ≡ Some entry = ap (entry_with at) m.is in
        let read = subst (λ (bs : List ℕ). message_at EntryPart (payload_of bs f) ≡ Ok inner) same (held version 10 EntryPart s f inner refl part key n.2) in
        let p = put.entry key in
        let stands = p.0.is inner entry read (subst (λ (a : ℕ). entry_with a inner ≡ Some entry) (sym n.0) it) in
        let whole : keyed_list l.rest ≡ keyed_list (has_message at 10 inner rest) = ap keyed_list is ∙ ap (λ (key : ℕ). keyed_list (has_message at key inner rest)) e.0 in
        record {
          rest = rest;
          left = n.3;
          are = more;
          entries = l.entries ++ entry ∷ [];
          blocks = l.blocks;
          entries_are =
              l.entries_are ∙ ap (λ (list : KeyedList). l.entries ++ list.entries) whole
              ∙ ap (λ (es : List KeyEntry). l.entries ++ es) (kept_one (λ (m : Placed Fields). entry_with m.at m.value) (placed at inner) (messages_of 10 rest) entry it)
              ∙ sym (append_assoc l.entries (entry ∷ []) (entries_of rest));
          blocks_are = l.blocks_are ∙ ap (λ (list : KeyedList). l.blocks ++ list.blocks) whole;
          entries_kept = subst (λ (es : List EntryKept). AreEntriesKept bytes es (l.entries ++ entry ∷ [])) (sym p.0.put) (entry_more bytes kept.entries.items l.entries p.0.kept entry l.entries_kept stands);
          blocks_kept = subst (λ (bs : List Payload). AreBlocksKept version bytes bs l.blocks) (sym p.1) l.blocks_kept;
        }
    one (inr e, more) =
        let key : f.key ≡ 22 = n.1 ∙ e.0 in
        let block : KeyedBlock = record { at = at; addresses = addresses_within inner } in
        let span : Payload = record { at = f.at; from = f.from; to = f.to } in
        let read = subst (λ (bs : List ℕ). message_at (BlockPart version) (payload_of bs f) ≡ Ok inner) same (held version 22 (BlockPart version) s f inner refl part key n.2) in
        let p = put.block key in
        let whole : keyed_list l.rest ≡ keyed_list (has_message at 22 inner rest) = ap keyed_list is ∙ ap (λ (key : ℕ). keyed_list (has_message at key inner rest)) e.0 in
        let stands : IsBlockKept version bytes span block = record { inside = inside; fields = inner; read = read; at_is = n.0; is = refl } in
        record {
          rest = rest;
          left = n.3;
          are = more;
          entries = l.entries;
          blocks = l.blocks ++ block ∷ [];
          entries_are = l.entries_are ∙ ap (λ (list : KeyedList). l.entries ++ list.entries) whole;
          blocks_are = l.blocks_are ∙ ap (λ (list : KeyedList). l.blocks ++ list.blocks) whole ∙ sym (append_assoc l.blocks (block ∷ []) (blocks_of rest));
          entries_kept = subst (λ (es : List EntryKept). AreEntriesKept bytes es l.entries) (sym p.0) l.entries_kept;
          blocks_kept = subst (λ (bs : List Payload). AreBlocksKept version bytes bs (l.blocks ++ block ∷ [])) (sym p.1) (block_more version bytes kept.blocks.items l.blocks span block l.blocks_kept stands);
        }

-- the next field
pub list_on : (version : Version) (bytes : List ℕ) (all : Fields) (kept new : ListKept) (s behind : Standing) (f : Field) → ListLeft version bytes all kept s → s.part ≡ ListPart version → s.window.bytes ≡ bytes
    → ((fields : Fields) → left_in s ≡ Ok fields → IsNext s behind f fields) → IsWindow (part_of bytes f.from f.to) → IsFieldPut bytes f kept new → ListLeft version bytes all new behind
list_on version bytes all kept new s behind f l part same next inside put = step version bytes all kept new s behind f l.rest l refl part same (next l.rest l.left) inside put

-- all of them
pub list_all_kept : (version : Version) (bytes : List ℕ) (all : Fields) (kept : ListKept) (s : Standing) → ListLeft version bytes all kept s → ((fields : Fields) → left_in s ≡ Ok fields → fields ≡ ends) → IsListKept version bytes kept (keyed_list all)
list_all_kept version bytes all kept s l last =
    let none : l.rest ≡ ends = last l.rest l.left in
    let entries : l.entries ≡ entries_of all = sym (l.entries_are ∙ ap (λ (r : Fields). l.entries ++ entries_of r) none ∙ append-nil l.entries) in
    let blocks : l.blocks ≡ blocks_of all = sym (l.blocks_are ∙ ap (λ (r : Fields). l.blocks ++ blocks_of r) none ∙ append-nil l.blocks) in
    record {
      entries = subst (AreEntriesKept bytes kept.entries.items) entries l.entries_kept;
      blocks = subst (AreBlocksKept version bytes kept.blocks.items) blocks l.blocks_kept;
    }

-- Lists in one pass: what was seen so far is one with what is left.
use Rattle.std.proofs.Common.{◌≡◌, ◌≤◌, ℕ, ◌+◌, Bool, true, List, [], ◌∷◌, ◌++◌, drop, flat_map, length, Option, Some, None, Result, Ok, refl, sym, ap, subst, ◌∙◌, arith, append_assoc, length-append}
use Rattle.std.specs.Option.{option_or}
use Rattle.std.proofs.lemmas.List.{append-nil}
use Rattle.obf_wire.specs.declared.field.Field.{Field}
use Rattle.obf_wire.specs.declared.file.FileBreak.{FileBreak}
use Rattle.obf_wire.specs.Fields.{Window, IsWindow, is_among, part_of}
use Rattle.obf_wire.specs.KnownKeys.{StandsFirst}
use Rattle.file_grammar.specs.declared.parts.Part.TheVariants.{Address as AddressPart, Addresses as AddressesPart, KeyEntry as EntryPart, Keyed as ListPart, KeyedBlock as BlockPart}
use Rattle.file_grammar.specs.declared.parts.Version.{Version}
use Rattle.file_grammar.specs.AddressRules.{Address, KeyEntry, KeyedBlock, KeyedList, address_facts, address_with, addresses_in, entry_facts, first_at, first_of, keyed_facts, keyed_list, last_of}
use Rattle.file_grammar.specs.BoxRules.{Beside}
use Rattle.file_grammar.specs.Facts.{Fact, earlier, first_failing}
use Rattle.file_grammar.specs.Messages.{Fields, ends, has_message}
use Rattle.file_grammar.specs.Readings.{message_at, message_from}
use Rattle.file_grammar.specs.Sections.{Placed, messages_in, placed}
use Rattle.file_grammar.specs.Tables.{may_end, next_keys}
use Rattle.file_grammar.proofs.Built.{ends_there, message_before}
use Rattle.file_grammar.proofs.Earlier.{and_more, earlier_joined}
use Rattle.boxed_exact.specs.declared.fields.Payload.{Payload}
use Rattle.addr_section.specs.declared.addresses.SortKey.{SortKey}
use Rattle.addr_section.specs.declared.block_rules.BlockSeen.{BlockSeen}
use Rattle.addr_section.specs.declared.kept.EntryKept.{EntryKept}
use Rattle.addr_section.specs.declared.kept.ListKept.{ListKept}
use Rattle.addr_section.specs.Asked.{AreBlocksAsked, AreUnnamed, IsAddressAsked, IsBlockAsked, IsPairAsked, all_facts, block_facts, blocks_facts}
use Rattle.addr_section.specs.Kept.{AreBlocksKept, AreEntriesKept, IsListKept, addresses_within}
use Rattle.addr_section.specs.Seen.{IsSortKeyOf}
use Rattle.addr_section.specs.Straight.{AreBlocksRead, AreEntriesRead, IsBlockNamed, IsBlockRead, IsEntryRead, IsListRead}
use Rattle.addr_section.proofs.AddressAsking.{first_joined_key, last_joined}
use Rattle.addr_section.proofs.ListAsking.{block_first, facts_joined, keys_on, list_asked, no_blocks, pair_asked}
use Rattle.addr_section.proofs.ListShape.{block_more, entry_more, kept_one}
use Rattle.addr_section.proofs.SortKeys.{or_key}
use Rattle.addr_section.proofs.StraightLines.{at_place, window_behind}

abbrev fields_ok : Fields → Result Fields FileBreak
fields_ok x = Ok x

-- ---- addresses

module _ (houses : Bool) (beside : Beside) (version : Version) (w : Window) where
  -- the addresses up to an offset
  pub record AddressesRead (prev : Option Address) (start now : Option FileBreak) (seen : BlockSeen) (at : ℕ) : Type 0 where
    pub passed : List Address
    pub join : Fields → Fields
    pub read : (rest : Fields) → message_from (BlockPart version) (Some 10) (at_place w at) ≡ fields_ok rest → message_at (BlockPart version) w ≡ fields_ok (join rest)
    pub are : (rest : Fields) → addresses_within (join rest) ≡ passed ++ addresses_within rest
    pub asked : IsBlockAsked houses beside prev passed start now seen

  pub addresses_start : (prev : Option Address) (start : Option FileBreak) → AddressesRead prev start start (record { count = 0; first = None; last = None }) w.place
  unfolding message_from
  addresses_start prev start = record {
    passed = [];
    join = λ rest. rest;
    read = λ rest e. e;
    are = λ rest. refl;
    asked = record { asked = sym (earlier_nothing start); count = refl; first = tt; last = tt };
  }
    where
      earlier_nothing : (a : Option FileBreak) → earlier a None ≡ a
      earlier_nothing None = refl
      earlier_nothing (Some b) = refl

  pub addresses_more : (prev : Option Address) (start now new : Option FileBreak) (seen : BlockSeen) (before : Option SortKey) (key : SortKey) (at : ℕ) (f : Field) (inner : Fields) → IsWindow (at_place w at) → AddressesRead prev start now seen at → IsSortKeyOf before prev
      → StandsFirst (at_place w at) 10 f → message_at (AddressPart version) (part_of w.bytes f.from f.to) ≡ fields_ok inner → ((p : Option Address) → IsSortKeyOf (option_or seen.last before) p → IsAddressAsked houses beside p f.at inner now new key)
      → AddressesRead prev start new (record { count = seen.count + 1; first = option_or seen.first (Some key); last = Some key }) f.to
  addresses_more prev start now new seen before key at f inner window l was stands read one =
      let p : Option Address = option_or (last_of l.passed) prev in
      let a = one p (or_key seen.last before (last_of l.passed) prev l.asked.last was) in
      let longer = length-append l.passed (a.address ∷ []) in
      let alone : all_facts houses beside p (a.address ∷ []) ≡ address_facts houses beside (p, a.address) = append-nil (address_facts houses beside (p, a.address)) in
      record {
        passed = l.passed ++ a.address ∷ [];
        join = λ rest. l.join (has_message f.at 10 inner rest);
        read = λ rest e. l.read (has_message f.at 10 inner rest) (message_before (BlockPart version) (Some 10) (at_place w at) 10 (AddressPart version) f inner rest window refl refl stands read e);
        are = λ rest.
            l.are (has_message f.at 10 inner rest)
            ∙ ap (λ (xs : List Address). l.passed ++ xs) (kept_one (λ (m : Placed Fields). address_with m.at m.value) (placed f.at inner) (messages_in rest) a.address a.is)
            ∙ sym (append_assoc l.passed (a.address ∷ []) (addresses_within rest));
        asked = record {
          asked = and_more start now new (all_facts houses beside prev l.passed) (all_facts houses beside p (a.address ∷ [])) l.asked.asked (a.asked ∙ ap (λ (fs : List Fact). earlier now (first_failing fs)) (sym alone))
              ∙ ap (λ (fs : List Fact). earlier start (first_failing fs)) (sym (facts_joined houses beside prev l.passed (a.address ∷ [])));
          count = omega (arith, l.asked.count, longer);
          first = first_joined_key houses beside seen.first key l.passed a.address l.asked.first a.key_is;
          last = subst (IsSortKeyOf (Some key)) (sym (last_joined houses beside l.passed a.address)) a.key_is;
        };
      }

  pub addresses_done : (prev : Option Address) (start now : Option FileBreak) (seen : BlockSeen) (at : ℕ) → IsWindow (at_place w at) → w.end ≤ at → AddressesRead prev start now seen at → IsBlockRead houses beside version w prev start now seen
  addresses_done prev start now seen at window none l =
      let are : addresses_within (l.join ends) ≡ l.passed = l.are ends ∙ append-nil l.passed in
      record {
        fields = l.join ends;
        read = l.read ends (ends_there (BlockPart version) (Some 10) (at_place w at) window none refl);
        asked = subst (λ (xs : List Address). IsBlockAsked houses beside prev xs start now seen) (sym are) l.asked;
      }

-- ---- entries

pub entries_start : (version : Version) (w : Window) (old : List EntryKept) → AreEntriesRead version w old old w.place
unfolding message_from
entries_start version w old = record { more = []; put = sym (append-nil old); entries = []; kept = tt; join = λ rest. rest; read = λ rest e. e; entries_are = λ rest. refl; blocks_are = λ rest. refl }

pub entries_more : (version : Version) (w : Window) (old now new : List EntryKept) (at : ℕ) (f : Field) (kept : EntryKept) → IsWindow (at_place w at) → AreEntriesRead version w old now at → StandsFirst (at_place w at) 10 f → IsEntryRead (part_of w.bytes f.from f.to) f.at kept → new ≡ now ++ kept ∷ []
    → AreEntriesRead version w old new f.to
entries_more version w old now new at f kept window l stands e put = record {
  more = l.more ++ kept ∷ [];
  put = put ∙ ap (λ (xs : List EntryKept). xs ++ kept ∷ []) l.put ∙ append_assoc old l.more (kept ∷ []);
  entries = l.entries ++ e.entry ∷ [];
  kept = entry_more w.bytes l.more l.entries kept e.entry l.kept e.kept_is;
  join = λ rest. l.join (has_message f.at 10 e.fields rest);
  read = λ rest r. l.read (has_message f.at 10 e.fields rest) (message_before (ListPart version) (Some 10) (at_place w at) 10 EntryPart f e.fields rest window refl refl stands e.read r);
  entries_are = λ rest.
      l.entries_are (has_message f.at 10 e.fields rest)
      ∙ ap (λ (xs : List KeyEntry). l.entries ++ xs) (first_entry rest)
      ∙ sym (append_assoc l.entries (e.entry ∷ []) (keyed_list rest).entries);
  blocks_are = λ rest. l.blocks_are (has_message f.at 10 e.fields rest);
}
  where
    first_entry : (rest : Fields) → (keyed_list (has_message f.at 10 e.fields rest)).entries ≡ e.entry ∷ (keyed_list rest).entries
    first_entry rest = rw (e.is) refl

-- ---- blocks

-- the first of them stands there
abbrev BeginsAt : ℕ → List KeyedBlock → Type 0
BeginsAt place [] = Unit {0}
BeginsAt place (b ∷ bs) = b.at ≡ place

-- a field of a block may come, and the list may end
pub record MayGoOn (version : Version) (last : Option ℕ) : Type 0 where
  pub block : is_among (next_keys (ListPart version) last) 22 ≡ true
  pub end : may_end (ListPart version) last ≡ true

module _ (houses : Bool) (beside : Beside) (version : Version) (w : Window) (keys : List KeyEntry) where
  -- the blocks up to an offset
  pub record BlocksRead (named : List EntryKept) (old spans_now : List Payload) (before : Option SortKey) (count : ℕ) (start now : Option FileBreak) (at : ℕ) : Type 0 where
    pub blocks : List KeyedBlock
    pub keys_left : List KeyEntry
    pub prev : Option Address
    pub spans : List Payload
    pub put : spans_now ≡ old ++ spans
    pub last : Option ℕ
    pub may : MayGoOn version last
    pub join : Fields → Fields
    pub read : (rest : Fields) → message_from (ListPart version) last (at_place w at) ≡ fields_ok rest → message_from (ListPart version) (Some 10) w ≡ fields_ok (join rest)
    pub are : (rest : Fields) → (keyed_list (join rest)).blocks ≡ blocks ++ (keyed_list rest).blocks
    pub none : (rest : Fields) → (keyed_list (join rest)).entries ≡ (keyed_list rest).entries
    pub kept : AreBlocksKept version w.bytes spans blocks
    pub keys_are : AreEntriesKept w.bytes named keys_left
    pub before_is : IsSortKeyOf before prev
    pub asked : (rest : List KeyedBlock) → earlier start (first_failing (blocks_facts houses beside w.place keys None (blocks ++ rest))) ≡ earlier now (first_failing (blocks_facts houses beside w.place keys_left prev rest))
    pub counted : count ≡ length (addresses_in blocks)
    pub begins : BeginsAt w.place blocks
    pub here : blocks ≡ [] → at ≡ w.place

  pub blocks_start : (named : List EntryKept) (old : List Payload) (start : Option FileBreak) → AreEntriesKept w.bytes named keys → BlocksRead named old old None 0 start start w.place
  blocks_start named old start are = record {
    blocks = [];
    keys_left = keys;
    prev = None;
    spans = [];
    put = sym (append-nil old);
    last = Some 10;
    may = record { block = refl; end = refl };
    join = λ rest. rest;
    read = λ rest e. e;
    are = λ rest. refl;
    none = λ rest. refl;
    kept = tt;
    keys_are = are;
    before_is = tt;
    asked = λ rest. refl;
    counted = refl;
    begins = tt;
    here = λ e. refl;
  }

  begin_more : (bs : List KeyedBlock) (b : KeyedBlock) → BeginsAt w.place bs → (bs ≡ [] → b.at ≡ w.place) → BeginsAt w.place (bs ++ b ∷ [])
  begin_more [] b begins here = here refl
  begin_more (x ∷ xs) b begins here = begins

  some_more : (bs : List KeyedBlock) (b : KeyedBlock) → bs ++ b ∷ [] ≡ [] → ⊥
  some_more [] b e = absurd cc
  some_more (x ∷ xs) b e = absurd cc

  joined_addresses : (bs : List KeyedBlock) (b : KeyedBlock) → length (addresses_in (bs ++ b ∷ [])) ≡ length (addresses_in bs) + length b.addresses
  joined_addresses [] b = let e = length-append b.addresses [] in omega (arith, e)
  joined_addresses (x ∷ xs) b =
      let ih = joined_addresses xs b in
      let l = length-append x.addresses (addresses_in (xs ++ b ∷ [])) in
      let r = length-append x.addresses (addresses_in xs) in
      omega (arith, ih, l, r)

  pub blocks_more : (named : List EntryKept) (old spans_now spans_new : List Payload) (before : Option SortKey) (count at : ℕ) (start now mid new : Option FileBreak) (f : Field) (seen : BlockSeen) → IsWindow (at_place w at) → IsWindow (part_of w.bytes f.from f.to)
      → BlocksRead named old spans_now before count start now at → StandsFirst (at_place w at) 22 f → ((p : Option Address) → IsSortKeyOf before p → IsBlockRead houses beside version (part_of w.bytes f.from f.to) p now mid seen)
      → ((ks : List KeyEntry) (it : KeyedBlock) → AreEntriesKept w.bytes named ks → it.at ≡ f.at → seen.count ≡ length it.addresses → IsSortKeyOf seen.first (first_of it.addresses) → IsSortKeyOf seen.last (last_of it.addresses) → IsBlockNamed w.place ks it mid new)
      → spans_new ≡ spans_now ++ record { at = f.at; from = f.from; to = f.to } ∷ [] → BlocksRead (drop 1 named) old spans_new (option_or seen.last before) (count + seen.count) start new f.to
  blocks_more named old spans_now spans_new before count at start now mid new f seen window payload l stands one named_so put =
      let g = one l.prev l.before_is in
      let it : KeyedBlock = record { at = f.at; addresses = addresses_within g.fields } in
      let span : Payload = record { at = f.at; from = f.from; to = f.to } in
      let n = named_so l.keys_left it l.keys_are refl g.asked.count g.asked.first g.asked.last in
      let p : IsPairAsked houses beside w.place l.keys_left l.prev it now new seen = pair_asked houses beside w.place l.keys_left l.prev it now mid n.mid new seen g.asked n.count n.pair in
      let own = first_failing (block_facts houses beside w.place l.keys_left l.prev it) in
      let sum = joined_addresses l.blocks it in
      record {
        blocks = l.blocks ++ it ∷ [];
        keys_left = drop 1 l.keys_left;
        prev = option_or (last_of it.addresses) l.prev;
        spans = l.spans ++ span ∷ [];
        put = put ∙ ap (λ (xs : List Payload). xs ++ span ∷ []) l.put ∙ append_assoc old l.spans (span ∷ []);
        last = Some 22;
        may = record { block = refl; end = refl };
        join = λ rest. l.join (has_message f.at 22 g.fields rest);
        read = λ rest e. l.read (has_message f.at 22 g.fields rest) (message_before (ListPart version) l.last (at_place w at) 22 (BlockPart version) f g.fields rest window l.may.block refl stands g.read e);
        are = λ rest. l.are (has_message f.at 22 g.fields rest) ∙ sym (append_assoc l.blocks (it ∷ []) (keyed_list rest).blocks);
        none = λ rest. l.none (has_message f.at 22 g.fields rest);
        kept = block_more version w.bytes l.spans l.blocks span it l.kept (record { inside = payload; fields = g.fields; read = g.read; at_is = refl; is = refl });
        keys_are = keys_on houses beside w.bytes named l.keys_left l.keys_are;
        before_is = or_key seen.last before (last_of it.addresses) l.prev p.last l.before_is;
        asked = λ rest.
            ap (λ (bs : List KeyedBlock). earlier start (first_failing (blocks_facts houses beside w.place keys None bs))) (append_assoc l.blocks (it ∷ []) rest)
            ∙ l.asked (it ∷ rest)
            ∙ ap (earlier now) (block_first houses beside w.place l.keys_left l.prev it rest)
            ∙ sym (earlier_joined now own (first_failing (blocks_facts houses beside w.place (drop 1 l.keys_left) (option_or (last_of it.addresses) l.prev) rest)))
            ∙ ap (λ (x : Option FileBreak). earlier x (first_failing (blocks_facts houses beside w.place (drop 1 l.keys_left) (option_or (last_of it.addresses) l.prev) rest))) (sym p.asked);
        counted = omega (arith, l.counted, sum, p.count);
        begins = begin_more l.blocks it l.begins (λ e. stands.at_is ∙ l.here e);
        here = λ e. absurd (some_more l.blocks it e);
      }

  -- the places are told from the first block on
  from_first : (bs : List KeyedBlock) → BeginsAt w.place bs → blocks_facts houses beside w.place keys None bs ≡ blocks_facts houses beside (first_at bs) keys None bs
  from_first [] begins = no_blocks houses beside w.place keys None ∙ sym (no_blocks houses beside 0 keys None)
  from_first (b ∷ bs) begins = ap (λ (n : ℕ). blocks_facts houses beside n keys None (b ∷ bs)) (sym begins)

  pub blocks_done : (named : List EntryKept) (old spans_now : List Payload) (before : Option SortKey) (count at : ℕ) (start now new : Option FileBreak) → IsWindow (at_place w at) → w.end ≤ at → BlocksRead named old spans_now before count start now at
      → ((its : List KeyEntry) → AreEntriesKept w.bytes named its → AreUnnamed its now new) → AreBlocksRead houses beside version w keys start new old spans_now count
  blocks_done named old spans_now before count at start now new window none l told =
      let blocks : (keyed_list (l.join ends)).blocks ≡ l.blocks = l.are ends ∙ append-nil l.blocks in
      record {
        fields = l.join ends;
        read = l.read ends (ends_there (ListPart version) l.last (at_place w at) window none l.may.end);
        spans = l.spans;
        put = l.put;
        none = l.none ends;
        kept = subst (AreBlocksKept version w.bytes l.spans) (sym blocks) l.kept;
        asked = subst (λ (bs : List KeyedBlock). AreBlocksAsked houses beside keys bs start new count) (sym blocks)
            (record {
              asked = told l.keys_left l.keys_are
                  ∙ ap (λ (fs : List Fact). earlier now (first_failing fs)) (sym (no_blocks houses beside w.place l.keys_left l.prev))
                  ∙ sym (l.asked [])
                  ∙ ap (λ (bs : List KeyedBlock). earlier start (first_failing (blocks_facts houses beside w.place keys None bs))) (append-nil l.blocks)
                  ∙ ap (λ (fs : List Fact). earlier start (first_failing fs)) (from_first l.blocks l.begins);
              count_is = l.counted;
            });
      }

-- ---- a list

abbrev list_of : List KeyEntry → List KeyedBlock → KeyedList
list_of entries blocks = record { entries = entries; blocks = blocks }

pub list_read : (houses : Bool) (beside : Beside) (version : Version) (w : Window) (entries : List EntryKept) (spans : List Payload) (kept : ListKept) (from count : ℕ) (start mid new : Option FileBreak) (e : AreEntriesRead version w [] entries from)
    → AreBlocksRead houses beside version (record w { place = from }) e.entries mid new [] spans count → kept.entries.items ≡ entries → kept.blocks.items ≡ spans → mid ≡ earlier start (first_failing (flat_map entry_facts e.entries)) → IsListRead houses beside version w start new kept count
list_read houses beside version w entries spans kept from count start mid new e b same_entries same_spans asked =
    let blocks : List KeyedBlock = (keyed_list b.fields).blocks in
    let same : keyed_list (e.join b.fields) ≡ list_of e.entries blocks =
    ap (λ (es : List KeyEntry). list_of es (keyed_list (e.join b.fields)).blocks) (e.entries_are b.fields ∙ ap (λ (es : List KeyEntry). e.entries ++ es) b.none ∙ append-nil e.entries)
    ∙ ap (list_of e.entries) (e.blocks_are b.fields) in
    record {
      fields = e.join b.fields;
      read = e.read b.fields b.read;
      kept_is = subst (IsListKept version w.bytes kept) (sym same)
          (record {
            entries = subst (λ (es : List EntryKept). AreEntriesKept w.bytes es e.entries) (sym (same_entries ∙ e.put)) e.kept;
            blocks = subst (λ (ss : List Payload). AreBlocksKept version w.bytes ss blocks) (sym (same_spans ∙ b.put)) b.kept;
          });
      asked = list_asked houses beside (list_of e.entries blocks) start mid new count asked b.asked ∙ ap (λ (l : KeyedList). earlier start (first_failing (keyed_facts houses beside l))) (sym same);
      counted = b.asked.count_is ∙ ap (λ (l : KeyedList). length (addresses_in l.blocks)) (sym same);
    }

-- ---- both lists

pub lists_read : (version : Version) (w : Window) (n h : Field) (names houses : Fields) → IsWindow w → StandsFirst w 14 n → StandsFirst (at_place w n.to) 22 h → h.to ≡ w.end → message_at (ListPart version) (part_of w.bytes n.from n.to) ≡ fields_ok names
    → message_at (ListPart version) (part_of w.bytes h.from h.to) ≡ fields_ok houses → message_at (AddressesPart version) w ≡ fields_ok (has_message n.at 14 names (has_message h.at 22 houses ends))
lists_read version w n h names houses window sn sh end one two =
    let wn = window_behind w n window sn.inside in
    let wh = window_behind (at_place w n.to) h wn sh.inside in
    message_before (AddressesPart version) None w 14 (ListPart version) n names (has_message h.at 22 houses ends) window refl refl sn one
    (message_before (AddressesPart version) (Some 14) (at_place w n.to) 22 (ListPart version) h houses ends wn refl refl sh two (ends_there (AddressesPart version) (Some 22) (at_place w h.to) wh (omega (arith, end)) refl))

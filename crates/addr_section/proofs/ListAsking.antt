-- Entries and blocks of a list that are asked, one after another.
use Rattle.std.proofs.Common.{◌≡◌, ℕ, ◌+◌, Bool, false, List, [], ◌∷◌, ◌++◌, drop, flat_map, length, map, Option, Some, None, refl, sym, ap, subst, ◌∙◌, arith, append_assoc, length-append}
use Rattle.std.specs.Option.{option_or}
use Rattle.std.proofs.lemmas.List.{append-nil}
use Rattle.obf_wire.specs.declared.file.FileBreak.{FileBreak}
use Rattle.obf_wire.specs.declared.file.FileKind.TheVariants.{BadPlace}
use Rattle.file_grammar.specs.declared.parts.Version.{Version}
use Rattle.file_grammar.specs.AddressRules.{Address, KeyEntry, KeyedBlock, KeyedList, address_facts, addresses_in, entry_facts, entry_pairs, first_at, key_facts, keyed_block_fact, keyed_facts, last_of}
use Rattle.file_grammar.specs.BoxRules.{Beside}
use Rattle.file_grammar.specs.Facts.{Fact, earlier, fact, failing, first_failing}
use Rattle.file_grammar.proofs.Earlier.{and_before, and_last, and_more, and_one, earlier_joined, earlier_none, earlier_swap, first_joined}
use Rattle.boxed_exact.specs.declared.fields.Payload.{Payload}
use Rattle.addr_section.specs.declared.addresses.SortKey.{SortKey}
use Rattle.addr_section.specs.declared.block_rules.BlockSeen.{BlockSeen}
use Rattle.addr_section.specs.declared.kept.EntryKept.{EntryKept}
use Rattle.addr_section.specs.Asked.{AreBlocksAsked, AreUnnamed, IsBlockAsked, IsPairAsked, all_facts, block_facts, blocks_facts, pair_facts}
use Rattle.addr_section.specs.Kept.{AreBlocksKept, AreEntriesKept, IsBlockKept, IsEntryKept}
use Rattle.addr_section.specs.Seen.{IsSortKeyOf}
use Rattle.addr_section.proofs.SortKeys.{or_key}

-- ---- entries

-- the rules of entries are those asked so far and those of the entries that are left
pub record EntriesLeft (bytes : List ℕ) (all : List KeyEntry) (left : List EntryKept) (start now : Option FileBreak) : Type 0 where
  pub rest : List KeyEntry
  pub are : AreEntriesKept bytes left rest
  pub asked : earlier start (first_failing (flat_map entry_facts all)) ≡ earlier now (first_failing (flat_map entry_facts rest))

pub entries_begin : (bytes : List ℕ) (all : List KeyEntry) (left : List EntryKept) (start : Option FileBreak) → AreEntriesKept bytes left all → EntriesLeft bytes all left start start
entries_begin bytes all left start are = record { rest = all; are = are; asked = refl }

-- what was asked of one of them
and_on : (start now new : Option FileBreak) (all facts more : List Fact) → earlier start (first_failing all) ≡ earlier now (first_failing (facts ++ more)) → new ≡ earlier now (first_failing facts)
    → earlier start (first_failing all) ≡ earlier new (first_failing more)
and_on start now new all facts more asked e = asked ∙ sym (and_more now new (earlier new (first_failing more)) facts more e refl)

pub entries_on : (bytes : List ℕ) (all : List KeyEntry) (entry : EntryKept) (left : List EntryKept) (start now new : Option FileBreak) → EntriesLeft bytes all (entry ∷ left) start now
    → ((it : KeyEntry) → IsEntryKept bytes entry it → new ≡ earlier now (first_failing (entry_facts it))) → EntriesLeft bytes all left start new
entries_on bytes all entry left start now new l one = by l.rest l.are l.asked
  where
    by : (rest : List KeyEntry) → AreEntriesKept bytes (entry ∷ left) rest → earlier start (first_failing (flat_map entry_facts all)) ≡ earlier now (first_failing (flat_map entry_facts rest)) → EntriesLeft bytes all left start new
    by [] are asked = absurd are
    by (it ∷ its) are asked = record { rest = its; are = are.1; asked = and_on start now new (flat_map entry_facts all) (entry_facts it) (flat_map entry_facts its) asked (one it are.0) }

pub entries_all : (bytes : List ℕ) (all : List KeyEntry) (left : List EntryKept) (start now : Option FileBreak) → length left ≡ 0 → EntriesLeft bytes all left start now → now ≡ earlier start (first_failing (flat_map entry_facts all))
entries_all bytes all (entry ∷ left) start now none l = absurd (omega arith)
entries_all bytes all [] start now none l = by l.rest l.are l.asked
  where
    by : (rest : List KeyEntry) → AreEntriesKept bytes [] rest → earlier start (first_failing (flat_map entry_facts all)) ≡ earlier now (first_failing (flat_map entry_facts rest)) → now ≡ earlier start (first_failing (flat_map entry_facts all))
    by [] are asked = sym (asked ∙ earlier_none now)
    by (it ∷ its) are asked = absurd are

-- ---- entries without a block

abbrev unnamed : List KeyEntry → List Fact
unnamed entries = map (λ e. fact e.place.at BadPlace false) entries

-- those that are left
pub record UnnamedLeft (bytes : List ℕ) (all : List KeyEntry) (left : List EntryKept) (start now : Option FileBreak) : Type 0 where
  pub rest : List KeyEntry
  pub are : AreEntriesKept bytes left rest
  pub asked : earlier start (first_failing (unnamed all)) ≡ earlier now (first_failing (unnamed rest))

pub unnamed_begin : (bytes : List ℕ) (all : List KeyEntry) (left : List EntryKept) (start : Option FileBreak) → AreEntriesKept bytes left all → UnnamedLeft bytes all left start start
unnamed_begin bytes all left start are = record { rest = all; are = are; asked = refl }

pub unnamed_on : (bytes : List ℕ) (all : List KeyEntry) (entry : EntryKept) (left : List EntryKept) (start now new : Option FileBreak) → UnnamedLeft bytes all (entry ∷ left) start now
    → new ≡ earlier now (failing (fact entry.place.at BadPlace false)) → UnnamedLeft bytes all left start new
unnamed_on bytes all entry left start now new l one = by l.rest l.are l.asked
  where
    by : (rest : List KeyEntry) → AreEntriesKept bytes (entry ∷ left) rest → earlier start (first_failing (unnamed all)) ≡ earlier now (first_failing (unnamed rest)) → UnnamedLeft bytes all left start new
    by [] are asked = absurd are
    by (it ∷ its) are asked =
        let here : new ≡ earlier now (failing (fact it.place.at BadPlace false)) = one ∙ ap (λ (at : ℕ). earlier now (failing (fact at BadPlace false))) are.0.place.at_is in
        record { rest = its; are = are.1; asked = asked ∙ sym (and_one now new (earlier new (first_failing (unnamed its))) (fact it.place.at BadPlace false) (unnamed its) here refl) }

pub unnamed_all : (bytes : List ℕ) (all : List KeyEntry) (left : List EntryKept) (start now : Option FileBreak) → length left ≡ 0 → UnnamedLeft bytes all left start now → AreUnnamed all start now
unnamed_all bytes all (entry ∷ left) start now none l = absurd (omega arith)
unnamed_all bytes all [] start now none l = by l.rest l.are l.asked
  where
    by : (rest : List KeyEntry) → AreEntriesKept bytes [] rest → earlier start (first_failing (unnamed all)) ≡ earlier now (first_failing (unnamed rest)) → AreUnnamed all start now
    by [] are asked = sym (asked ∙ earlier_none now)
    by (it ∷ its) are asked = absurd are

-- ---- a block and the first of the entries

pub pair_none : (bytes : List ℕ) (start : ℕ) (keys : List KeyEntry) (it : KeyedBlock) (entries : List EntryKept) (at : ℕ) (old new : Option FileBreak) → length entries ≡ 0 → AreEntriesKept bytes entries keys → it.at ≡ at → new ≡ earlier old (failing (fact at BadPlace false))
    → new ≡ earlier old (first_failing (pair_facts start keys it))
pair_none bytes start keys it (entry ∷ entries) at old new none are is e = absurd (omega arith)
pair_none bytes start (key ∷ keys) it [] at old new none are is e = absurd are
pair_none bytes start [] it [] at old new none are is e = and_last old new (fact it.at BadPlace false) (e ∙ ap (λ (a : ℕ). earlier old (failing (fact a BadPlace false))) (sym is))

pub pair_some : (bytes : List ℕ) (start : ℕ) (keys : List KeyEntry) (it : KeyedBlock) (entries : List EntryKept) (entry : EntryKept) (more : List EntryKept) (old new : Option FileBreak) → entries ≡ entry ∷ more → AreEntriesKept bytes entries keys
    → ((key : KeyEntry) → IsEntryKept bytes entry key → new ≡ earlier old (first_failing (key_facts start key it))) → new ≡ earlier old (first_failing (pair_facts start keys it))
pair_some bytes start keys it entries entry more old new same are one = by keys (subst (λ (xs : List EntryKept). AreEntriesKept bytes xs keys) same are)
  where
    by : (ks : List KeyEntry) → AreEntriesKept bytes (entry ∷ more) ks → new ≡ earlier old (first_failing (pair_facts start ks it))
    by [] are = absurd are
    by (key ∷ ks) are = one key are.0

-- ---- blocks beside their entries

module _ (houses : Bool) (beside : Beside) where
  -- addresses after some are those after the last of them
  same_last : (x : Address) (xs : List Address) (p q : Option Address) → option_or (last_of (x ∷ xs)) p ≡ option_or (last_of (x ∷ xs)) q
  same_last x [] p q = refl
  same_last x (y ∷ ys) p q = same_last y ys p q

  pub last_behind : (x : Address) (xs : List Address) (p : Option Address) → option_or (last_of xs) (Some x) ≡ option_or (last_of (x ∷ xs)) p
  last_behind x [] p = refl
  last_behind x (y ∷ ys) p = same_last y ys (Some x) p

  pub facts_joined : (prev : Option Address) (xs ys : List Address) → all_facts houses beside prev (xs ++ ys) ≡ all_facts houses beside prev xs ++ all_facts houses beside (option_or (last_of xs) prev) ys
  facts_joined prev [] ys = refl
  facts_joined prev (x ∷ xs) ys =
      let one : List Fact = address_facts houses beside (prev, x) in
      ap (λ (fs : List Fact). one ++ fs) (facts_joined (Some x) xs ys ∙ ap (λ (p : Option Address). all_facts houses beside (Some x) xs ++ all_facts houses beside p ys) (last_behind x xs prev))
      ∙ sym (append_assoc one (all_facts houses beside (Some x) xs) (all_facts houses beside (option_or (last_of (x ∷ xs)) prev) ys))

  crossed : (a b c d : Option FileBreak) → earlier (earlier a b) (earlier c d) ≡ earlier (earlier a c) (earlier b d)
  crossed a b c d =
      earlier_joined a b (earlier c d) ∙ ap (earlier a) (sym (earlier_joined b c d) ∙ ap (λ (x : Option FileBreak). earlier x d) (earlier_swap b c) ∙ earlier_joined c b d) ∙ sym (earlier_joined a c (earlier b d))

  -- facts of one and of others, three times, in the other order
  sorted_facts : (p q : List Fact) (b : Fact) (c x y : List Fact) → first_failing (((p ++ q) ++ (b ∷ c)) ++ (x ++ y)) ≡ earlier (first_failing (p ++ (b ∷ x))) (first_failing ((q ++ c) ++ y))
  sorted_facts p q b c x y =
      let fp = first_failing p in
      let fq = first_failing q in
      let fb = failing b in
      let fc = first_failing c in
      let fx = first_failing x in
      let fy = first_failing y in
      first_joined ((p ++ q) ++ (b ∷ c)) (x ++ y)
      ∙ ap (λ (z : Option FileBreak). earlier z (first_failing (x ++ y)))
      (first_joined (p ++ q) (b ∷ c) ∙ ap (λ (z : Option FileBreak). earlier z (earlier fb fc)) (first_joined p q) ∙ crossed fp fq fb fc)
      ∙ ap (earlier (earlier (earlier fp fb) (earlier fq fc))) (first_joined x y)
      ∙ crossed (earlier fp fb) (earlier fq fc) fx fy
      ∙ ap (λ (z : Option FileBreak). earlier z (earlier (earlier fq fc) fy)) (earlier_joined fp fb fx ∙ sym (first_joined p (b ∷ x)))
      ∙ ap (earlier (first_failing (p ++ (b ∷ x)))) (ap (λ (z : Option FileBreak). earlier z fy) (sym (first_joined q c)) ∙ sym (first_joined (q ++ c) y))

  pair_first : (start : ℕ) (keys : List KeyEntry) (it : KeyedBlock) (its : List KeyedBlock) → entry_pairs start keys (it ∷ its) ≡ pair_facts start keys it ++ entry_pairs start (drop 1 keys) its
  pair_first start [] it [] = refl
  pair_first start [] it (b ∷ bs) = refl
  pair_first start (key ∷ keys) it its = refl

  -- the rules of a block, and those of the blocks after it
  pub block_first : (start : ℕ) (keys : List KeyEntry) (prev : Option Address) (it : KeyedBlock) (its : List KeyedBlock)
      → first_failing (blocks_facts houses beside start keys prev (it ∷ its))
      ≡ earlier (first_failing (block_facts houses beside start keys prev it)) (first_failing (blocks_facts houses beside start (drop 1 keys) (option_or (last_of it.addresses) prev) its))
  block_first start keys prev it its =
      let own : List Fact = pair_facts start keys it in
      let pairs : List Fact = entry_pairs start (drop 1 keys) its in
      let counts : List Fact = map keyed_block_fact its in
      let here : List Fact = all_facts houses beside prev it.addresses in
      let there : List Fact = all_facts houses beside (option_or (last_of it.addresses) prev) (addresses_in its) in
      ap first_failing
      (ap (λ (fs : List Fact). (fs ++ (keyed_block_fact it ∷ counts)) ++ all_facts houses beside prev (it.addresses ++ addresses_in its)) (pair_first start keys it its)
      ∙ ap (λ (fs : List Fact). ((own ++ pairs) ++ (keyed_block_fact it ∷ counts)) ++ fs) (facts_joined prev it.addresses (addresses_in its)))
      ∙ sorted_facts own pairs (keyed_block_fact it) counts here there

  pub keys_on : (bytes : List ℕ) (named : List EntryKept) (keys : List KeyEntry) → AreEntriesKept bytes named keys → AreEntriesKept bytes (drop 1 named) (drop 1 keys)
  keys_on bytes [] [] are = are
  keys_on bytes [] (key ∷ keys) are = absurd are
  keys_on bytes (n ∷ ns) [] are = absurd are
  keys_on bytes (n ∷ ns) (key ∷ keys) are = are.1

  -- the blocks that are left, beside the entries that are left
  pub record BlocksLeft (version : Version) (bytes : List ℕ) (keys : List KeyEntry) (all : List KeyedBlock) (named : List EntryKept) (left : List Payload) (before : Option SortKey) (count : ℕ) (from now : Option FileBreak) : Type 0 where
    pub keys_left : List KeyEntry
    pub rest : List KeyedBlock
    pub prev : Option Address
    pub keys_are : AreEntriesKept bytes named keys_left
    pub are : AreBlocksKept version bytes left rest
    pub before_is : IsSortKeyOf before prev
    pub asked : earlier from (first_failing (blocks_facts houses beside (first_at all) keys None all)) ≡ earlier now (first_failing (blocks_facts houses beside (first_at all) keys_left prev rest))
    pub counted : length (addresses_in all) ≡ count + length (addresses_in rest)

  pub blocks_begin : (version : Version) (bytes : List ℕ) (keys : List KeyEntry) (all : List KeyedBlock) (named : List EntryKept) (left : List Payload) (from : Option FileBreak) → AreEntriesKept bytes named keys → AreBlocksKept version bytes left all
      → BlocksLeft version bytes keys all named left None 0 from from
  blocks_begin version bytes keys all named left from keys_are are = record { keys_left = keys; rest = all; prev = None; keys_are = keys_are; are = are; before_is = tt; asked = refl; counted = omega arith }

  pub blocks_on : (version : Version) (bytes : List ℕ) (keys : List KeyEntry) (all : List KeyedBlock) (named : List EntryKept) (span : Payload) (left : List Payload) (before : Option SortKey) (count : ℕ) (from now new : Option FileBreak) (seen : BlockSeen)
      → BlocksLeft version bytes keys all named (span ∷ left) before count from now
      → ((ks : List KeyEntry) (it : KeyedBlock) (prev : Option Address) → AreEntriesKept bytes named ks → IsBlockKept version bytes span it → IsSortKeyOf before prev → IsPairAsked houses beside (first_at all) ks prev it now new seen)
      → BlocksLeft version bytes keys all (drop 1 named) left (option_or seen.last before) (count + seen.count) from new
  blocks_on version bytes keys all named span left before count from now new seen l one = by l.rest l.are l.asked l.counted
    where
      by : (rest : List KeyedBlock) → AreBlocksKept version bytes (span ∷ left) rest
          → earlier from (first_failing (blocks_facts houses beside (first_at all) keys None all)) ≡ earlier now (first_failing (blocks_facts houses beside (first_at all) l.keys_left l.prev rest))
          → length (addresses_in all) ≡ count + length (addresses_in rest) → BlocksLeft version bytes keys all (drop 1 named) left (option_or seen.last before) (count + seen.count) from new
      by [] are asked counted = absurd are
      by (it ∷ its) are asked counted =
          let p = one l.keys_left it l.prev l.keys_are are.0 l.before_is in
          let own = first_failing (block_facts houses beside (first_at all) l.keys_left l.prev it) in
          let more = first_failing (blocks_facts houses beside (first_at all) (drop 1 l.keys_left) (option_or (last_of it.addresses) l.prev) its) in
          let joined = length-append it.addresses (addresses_in its) in
          record {
            keys_left = drop 1 l.keys_left;
            rest = its;
            prev = option_or (last_of it.addresses) l.prev;
            keys_are = keys_on bytes named l.keys_left l.keys_are;
            are = are.1;
            before_is = or_key seen.last before (last_of it.addresses) l.prev p.last l.before_is;
            asked = asked ∙ ap (earlier now) (block_first (first_at all) l.keys_left l.prev it its) ∙ sym (earlier_joined now own more) ∙ ap (λ (x : Option FileBreak). earlier x more) (sym p.asked);
            counted = omega (arith, counted, joined, p.count);
          }

  pub no_blocks : (start : ℕ) (keys : List KeyEntry) (prev : Option Address) → blocks_facts houses beside start keys prev [] ≡ unnamed keys
  no_blocks start [] prev = refl
  no_blocks start (key ∷ keys) prev = append-nil (unnamed (key ∷ keys) ++ []) ∙ append-nil (unnamed (key ∷ keys))

  pub blocks_all : (version : Version) (bytes : List ℕ) (keys : List KeyEntry) (all : List KeyedBlock) (named : List EntryKept) (left : List Payload) (before : Option SortKey) (count : ℕ) (from now new : Option FileBreak)
      → length left ≡ 0 → BlocksLeft version bytes keys all named left before count from now → ((its : List KeyEntry) → AreEntriesKept bytes named its → AreUnnamed its now new) → AreBlocksAsked houses beside keys all from new count
  blocks_all version bytes keys all named (span ∷ left) before count from now new none l told = absurd (omega arith)
  blocks_all version bytes keys all named [] before count from now new none l told = by l.rest l.are l.asked l.counted
    where
      by : (rest : List KeyedBlock) → AreBlocksKept version bytes [] rest
          → earlier from (first_failing (blocks_facts houses beside (first_at all) keys None all)) ≡ earlier now (first_failing (blocks_facts houses beside (first_at all) l.keys_left l.prev rest))
          → length (addresses_in all) ≡ count + length (addresses_in rest) → AreBlocksAsked houses beside keys all from new count
      by [] are asked counted = record {
        asked = told l.keys_left l.keys_are ∙ sym (asked ∙ ap (λ (fs : List Fact). earlier now (first_failing fs)) (no_blocks (first_at all) l.keys_left l.prev));
        count_is = omega (arith, counted);
      }
      by (it ∷ its) are asked counted = absurd are

  -- a block beside its entry, and its addresses
  pub pair_asked : (start : ℕ) (keys : List KeyEntry) (prev : Option Address) (it : KeyedBlock) (old mid counted new : Option FileBreak) (seen : BlockSeen) → IsBlockAsked houses beside prev it.addresses old mid seen → counted ≡ earlier mid (failing (keyed_block_fact it))
      → new ≡ earlier counted (first_failing (pair_facts start keys it)) → IsPairAsked houses beside start keys prev it old new seen
  pair_asked start keys prev it old mid counted new seen a one two = record {
    asked = and_before old counted new (pair_facts start keys it) (keyed_block_fact it ∷ all_facts houses beside prev it.addresses)
        (and_before old mid counted (keyed_block_fact it ∷ []) (all_facts houses beside prev it.addresses) a.asked (and_last mid counted (keyed_block_fact it) one)) two;
    count = a.count;
    last = a.last;
  }

  -- a whole list
  pub list_asked : (list : KeyedList) (start mid new : Option FileBreak) (count : ℕ) → mid ≡ earlier start (first_failing (flat_map entry_facts list.entries)) → AreBlocksAsked houses beside list.entries list.blocks mid new count
      → new ≡ earlier start (first_failing (keyed_facts houses beside list))
  unfolding keyed_facts
  list_asked list start mid new count one two =
      let entries = flat_map entry_facts list.entries in
      let pairs = entry_pairs (first_at list.blocks) list.entries list.blocks in
      let counts = map keyed_block_fact list.blocks in
      let others = all_facts houses beside None (addresses_in list.blocks) in
      and_more start mid new entries ((pairs ++ counts) ++ others) one two.asked
      ∙ ap (λ (fs : List Fact). earlier start (first_failing fs)) (sym (append_assoc entries (pairs ++ counts) others) ∙ ap (λ (fs : List Fact). fs ++ others) (sym (append_assoc entries pairs counts)))

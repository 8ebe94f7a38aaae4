-- Lists, blocks and entries, one after another.
use Rattle.std.proofs.Common.{◌≡◌, ℕ, suc, ◌+◌, ◌-◌, ◌≤◌, List, [], ◌∷◌, ◌++◌, length, map, sym, ap, ◌∙◌, arith, get_or, append_assoc, length-append}
use Rattle.std.specs.Prelude.{flat_map}
use Rattle.std.specs.List.{AllByRecursion, range_with_len}
use Rattle.std.proofs.lemmas.List.{append-nil}
use Rattle.live_model.specs.declared.addresses.AddrRec.{AddrRec}
use Rattle.file_grammar.specs.AddressRules.{last_of}
use Rattle.boxed_write.specs.Packed.{cut}
use Rattle.std.proofs.lemmas.List.FromFn.{map-range_with_len_more}
use Rattle.boxed_write.proofs.Cuts.{cut_map}
use Rattle.addr_section.specs.declared.order.Keyed.{Keyed}
use Rattle.addr_section.specs.Packed.{block, entries_from, entry, key_or_empty}
use Rattle.addr_section.specs.Keyed.{IsKeyed, addresses_of}

-- the key of the last address
pub last_is : (k d : Keyed) (ks : List Keyed) → k ≡ get_or ks (length ks - 1) d → 1 ≤ length ks → AllByRecursion IsKeyed ks → k.key ≡ key_or_empty (last_of (addresses_of ks))
last_is k d [] is some all = absurd (omega arith)
last_is k d (x ∷ []) is some all = ap (λ (y : Keyed). y.key) is ∙ all.0
last_is k d (x ∷ y ∷ ks) is some all =
    let e : length (x ∷ y ∷ ks) - 1 ≡ suc (length (y ∷ ks) - 1) = omega arith in
    last_is k d (y ∷ ks) (is ∙ ap (λ (n : ℕ). get_or (x ∷ y ∷ ks) n d) e) (omega arith) all.1

-- three pieces behind what was begun
pub three_put : (begun a b c s0 s1 s2 s3 : List ℕ) → s0 ≡ begun → s1 ≡ s0 ++ a → s2 ≡ s1 ++ b → s3 ≡ s2 ++ c → s3 ≡ begun ++ (a ++ b ++ c)
three_put begun a b c s0 s1 s2 s3 e0 e1 e2 e3 =
    e3 ∙ ap (λ (s : List ℕ). s ++ c) (e2 ∙ ap (λ (s : List ℕ). s ++ b) (e1 ∙ ap (λ (s : List ℕ). s ++ a) e0))
    ∙ ap (λ (s : List ℕ). s ++ c) (append_assoc begun a b) ∙ append_assoc begun (a ++ b) c

blocks_more : (bs : List (List AddrRec)) (b : List AddrRec) → flat_map block (bs ++ b ∷ []) ≡ flat_map block bs ++ block b
blocks_more [] b = append-nil (block b)
blocks_more (x ∷ xs) b = ap (λ (bytes : List ℕ). block x ++ bytes) (blocks_more xs b) ∙ sym (append_assoc (block x) (flat_map block xs) (block b))

entries_more : (offset : ℕ) (bs : List (List AddrRec)) (b : List AddrRec) → entries_from offset (bs ++ b ∷ []) ≡ entries_from offset bs ++ entry (offset + length (flat_map block bs)) b
entries_more offset [] b =
    let e : offset ≡ offset + 0 = omega arith in
    append-nil (entry offset b) ∙ ap (λ (n : ℕ). entry n b) e
entries_more offset (x ∷ xs) b =
    let e : (offset + length (block x)) + length (flat_map block xs) ≡ offset + length (block x ++ flat_map block xs) = omega (arith, length-append (block x) (flat_map block xs)) in
    ap (λ (bytes : List ℕ). entry offset x ++ bytes) (entries_more (offset + length (block x)) xs b ∙ ap (λ (n : ℕ). entries_from (offset + length (block x)) xs ++ entry n b) e)
    ∙ sym (append_assoc (entry offset x) (entries_from (offset + length (block x)) xs) (entry (offset + length (block x ++ flat_map block xs)) b))

module _ (keyed : List Keyed) (index : ℕ) where
  abbrev pub before : ℕ → List (List AddrRec)
  before n = map (cut 64 (addresses_of keyed)) (range_with_len 0 n)

  next_is : (found : List Keyed) → found ≡ cut 64 keyed index → addresses_of found ≡ cut 64 (addresses_of keyed) index
  next_is found is = ap addresses_of is ∙ sym (cut_map (λ (k : Keyed). k.address.now) 64 index keyed)

  more : before (index + 1) ≡ before index ++ cut 64 (addresses_of keyed) index ∷ []
  more = map-range_with_len_more (cut 64 (addresses_of keyed)) 0 index index (omega arith)

  -- one more block
  pub blocks_on : (start out0 out1 : List ℕ) (found : List Keyed) → found ≡ cut 64 keyed index → out0 ≡ start ++ flat_map block (before index) → out1 ≡ out0 ++ block (addresses_of found) → out1 ≡ start ++ flat_map block (before (index + 1))
  blocks_on start out0 out1 found is done put =
      let next : List AddrRec = cut 64 (addresses_of keyed) index in
      put ∙ ap (λ (bytes : List ℕ). bytes ++ block (addresses_of found)) done ∙ ap (λ (b : List AddrRec). (start ++ flat_map block (before index)) ++ block b) (next_is found is)
      ∙ append_assoc start (flat_map block (before index)) (block next) ∙ ap (λ (bytes : List ℕ). start ++ bytes) (sym (blocks_more (before index) next))
      ∙ ap (λ (bs : List (List AddrRec)). start ++ flat_map block bs) (sym more)

  -- one more entry
  pub entries_on : (start blocks_start out0 out1 blocks0 : List ℕ) (offset : ℕ) (found : List Keyed) → found ≡ cut 64 keyed index → blocks0 ≡ blocks_start ++ flat_map block (before index) → offset ≡ length blocks0
      → out0 ≡ start ++ entries_from (length blocks_start) (before index) → out1 ≡ out0 ++ entry offset (addresses_of found) → out1 ≡ start ++ entries_from (length blocks_start) (before (index + 1))
  entries_on start blocks_start out0 out1 blocks0 offset found is blocks at done put =
      let next : List AddrRec = cut 64 (addresses_of keyed) index in
      let there : offset ≡ length blocks_start + length (flat_map block (before index)) = at ∙ ap length blocks ∙ length-append blocks_start (flat_map block (before index)) in
      put ∙ ap (λ (bytes : List ℕ). bytes ++ entry offset (addresses_of found)) done
      ∙ ap (λ (b : List AddrRec). (start ++ entries_from (length blocks_start) (before index)) ++ entry offset b) (next_is found is)
      ∙ ap (λ (n : ℕ). (start ++ entries_from (length blocks_start) (before index)) ++ entry n next) there
      ∙ append_assoc start (entries_from (length blocks_start) (before index)) (entry (length blocks_start + length (flat_map block (before index))) next)
      ∙ ap (λ (bytes : List ℕ). start ++ bytes) (sym (entries_more (length blocks_start) (before index) next))
      ∙ ap (λ (bs : List (List AddrRec)). start ++ entries_from (length blocks_start) bs) (sym more)

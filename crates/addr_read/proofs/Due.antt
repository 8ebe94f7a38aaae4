-- The blocks that are due are those that a search over the entries finds.
use Rattle.std.proofs.Common.{◌≡◌, ◌+◌, ◌-◌, ℕ, suc, Bool, true, false, cond, ◌&&◌, not, List, [], ◌∷◌, take, drop, Option, Some, refl, sym, ap, arith, ◌∙◌}
use Rattle.std.specs.List.{AllByRecursion, prefix_len}
use Rattle.ordered_lists.proofs.PutAll.{all_map}
use Rattle.name_fold.specs.Keys.{key}
use Rattle.live_model.specs.declared.addresses.AddrRec.{AddrRec}
use Rattle.file_grammar.specs.AddressRules.{first_of, last_of}
use Rattle.addr_section.specs.declared.kept.EntryKept.{EntryKept}
use Rattle.addr_read.specs.Finding.{due_blocks, is_below, is_listed, is_reached, may_hold}
use Rattle.addr_read.specs.Searching.{AreRising, begins_by, between, ends_before, text_in}
use Rattle.addr_read.proofs.Search.{ArePassed, begun_at_front, begun_where_ended, ended_at_front}

-- the block has addresses of one list, the first and the last of them with the keys of the entry
pub record IsEnds (houses : Bool) (bytes : List ℕ) (e : EntryKept) (b : List AddrRec) : Type 0 where
  pub first : AddrRec
  pub last : AddrRec
  pub first_is : first_of b ≡ Some first
  pub last_is : last_of b ≡ Some last
  pub listed : is_listed houses first.kind ≡ true
  pub first_key : text_in bytes e.first ≡ key first.name
  pub last_key : text_in bytes e.last ≡ key last.name

-- each block has those of its entry
abbrev pub AreEnds : Bool → List ℕ → List EntryKept → List (List AddrRec) → Type 0
AreEnds houses bytes [] [] = Unit {0}
AreEnds houses bytes (e ∷ es) (b ∷ bs) = IsEnds houses bytes e b × AreEnds houses bytes es bs
AreEnds houses bytes es bs = ⊥

take_one : {A : Type 0} (n : ℕ) (x : A) (xs : List A) → take (1 + n) (x ∷ xs) ≡ x ∷ take n xs
take_one n x xs = let one : 1 + n ≡ suc n = omega arith in ap (λ (m : ℕ). take m (x ∷ xs)) one

drop_one : {A : Type 0} (n : ℕ) (x : A) (xs : List A) → drop (1 + n) (x ∷ xs) ≡ drop n xs
drop_one n x xs = let one : 1 + n ≡ suc n = omega arith in ap (λ (m : ℕ). drop m (x ∷ xs)) one

fails_later : (s t : Bool) → (t ≡ true → s ≡ true) → s ≡ false → t ≡ false
fails_later s false on e = refl
fails_later s true on e = absurd (let f = on refl in cc)

module _ (houses : Bool) (bytes k : List ℕ) where
  -- a block may hold it where its entry allows it
  may_is : (e : EntryKept) (b : List AddrRec) → IsEnds houses bytes e b → may_hold houses k (first_of b) (last_of b) ≡ (not (ends_before bytes k e) && begins_by bytes houses k e)
  may_is e b is =
      ap (λ (o : Option AddrRec). may_hold houses k o (last_of b)) is.first_is ∙ ap (λ (o : Option AddrRec). may_hold houses k (Some is.first) o) is.last_is
      ∙ ap (λ (listed : Bool). listed && (not (is_below k (key is.last.name)) && is_reached houses k (key is.first.name))) is.listed
      ∙ ap (λ (text : List ℕ). not (is_below k text) && is_reached houses k (key is.first.name)) (sym is.last_key)
      ∙ ap (λ (text : List ℕ). not (ends_before bytes k e) && is_reached houses k text) (sym is.first_key)

  -- none where no entry begins in time
  none_due : (es : List EntryKept) (bs : List (List AddrRec)) → AreEnds houses bytes es bs → AllByRecursion (λ e. begins_by bytes houses k e ≡ false) es → due_blocks houses k bs ≡ []
  none_due [] [] are late = refl
  none_due [] (b ∷ bs) are late = absurd are
  none_due (e ∷ es) [] are late = absurd are
  none_due (e ∷ es) (b ∷ bs) are late = rw (may_is e b are.0) (rw late.0 (one (not (ends_before bytes k e)) (none_due es bs are.1 late.1)))
    where
      one : (s : Bool) → due_blocks houses k bs ≡ [] → cond (s && false) (b ∷ due_blocks houses k bs) (due_blocks houses k bs) ≡ []
      one true again = again
      one false again = again

  -- where no entry ends too early, those that begin in time
  begun_due : (es : List EntryKept) (bs : List (List AddrRec)) → AreEnds houses bytes es bs → ArePassed (begins_by bytes houses k) es → AllByRecursion (λ e. ends_before bytes k e ≡ false) es
      → due_blocks houses k bs ≡ take (prefix_len (begins_by bytes houses k) es) bs
  begun_due [] [] are up early = refl
  begun_due [] (b ∷ bs) are up early = absurd are
  begun_due (e ∷ es) [] are up early = absurd are
  begun_due (e ∷ es) (b ∷ bs) are up early = rw (may_is e b are.0) (rw early.0 (one (begins_by bytes houses k e) refl (begun_due es bs are.1 up.1 early.1)))
    where
      one : (t : Bool) → begins_by bytes houses k e ≡ t → due_blocks houses k bs ≡ take (prefix_len (begins_by bytes houses k) es) bs
          → cond t (b ∷ due_blocks houses k bs) (due_blocks houses k bs) ≡ take (cond t (1 + prefix_len (begins_by bytes houses k) es) 0) (b ∷ bs)
      one true e' again = ap (λ (rest : List (List AddrRec)). b ∷ rest) again ∙ sym (take_one (prefix_len (begins_by bytes houses k) es) b bs)
      one false e' again =
          none_due es bs are.1
          (all_map (λ f. begins_by bytes houses k f ≡ true → begins_by bytes houses k e ≡ true) (λ f. begins_by bytes houses k f ≡ false) es (λ f on. fails_later (begins_by bytes houses k e) (begins_by bytes houses k f) on e') up.0)

  -- the blocks that are due stand between the two places
  between_due : (es : List EntryKept) (bs : List (List AddrRec)) → AreEnds houses bytes es bs → ArePassed (ends_before bytes k) es → ArePassed (begins_by bytes houses k) es
      → AllByRecursion (λ e. ends_before bytes k e ≡ true → begins_by bytes houses k e ≡ true) es → due_blocks houses k bs ≡ between bytes houses k es bs
  between_due [] [] are up begun both = refl
  between_due [] (b ∷ bs) are up begun both = absurd are
  between_due (e ∷ es) [] are up begun both = absurd are
  between_due (e ∷ es) (b ∷ bs) are up begun both = one (ends_before bytes k e) refl (between_due es bs are.1 up.1 begun.1 both.1)
    where
      one : (s : Bool) → ends_before bytes k e ≡ s → due_blocks houses k bs ≡ between bytes houses k es bs → due_blocks houses k (b ∷ bs) ≡ between bytes houses k (e ∷ es) (b ∷ bs)
      one true e' again =
          let m = prefix_len (ends_before bytes k) es in
          let n = prefix_len (begins_by bytes houses k) es in
          let less : (1 + n) - (1 + m) ≡ n - m = omega arith in
          rw (may_is e b are.0) rw e' rw (both.0 e') (again ∙ sym (ap (λ (d : ℕ). take d (drop (1 + m) (b ∷ bs))) less ∙ ap (take (n - m)) (drop_one m b bs)))
      one false e' again =
          let m = prefix_len (begins_by bytes houses k) (e ∷ es) in
          let same : m - 0 ≡ m = omega arith in
          let early = all_map (λ f. ends_before bytes k f ≡ true → ends_before bytes k e ≡ true) (λ f. ends_before bytes k f ≡ false) es (λ f on. fails_later (ends_before bytes k e) (ends_before bytes k f) on e') up.0 in
          begun_due (e ∷ es) (b ∷ bs) are begun (e', early) ∙ sym (ap (λ (c : Bool). take (m - cond c (1 + prefix_len (ends_before bytes k) es) 0) (drop (cond c (1 + prefix_len (ends_before bytes k) es) 0) (b ∷ bs))) e' ∙ ap (λ (d : ℕ). take d (b ∷ bs)) same)

  pub due_are : (es : List EntryKept) (bs : List (List AddrRec)) → AreEnds houses bytes es bs → AreRising bytes es → due_blocks houses k bs ≡ between bytes houses k es bs
  due_are es bs are rising = between_due es bs are (ended_at_front bytes k es rising) (begun_at_front bytes k houses es rising) (begun_where_ended bytes k houses es rising)

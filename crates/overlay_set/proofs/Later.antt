-- States that follow each other: later is an order, and each swap leads to a later state.
use Rattle.std.proofs.Common.{◌≡◌, ℕ, ◌+◌, ◌≤◌, ◌⊎◌, max, Bool, true, false, cond, List, [], ◌∷◌, ◌++◌, length, drop, suc, zero, refl, sym, ap, ◌∙◌, inl, inr, ⊎_elim, append_assoc, append-nil, le_refl, le_trans, arith}
use mathlib.Core.List.{IsPrefix}
use Rattle.overlay_set.specs.Sets.{MapFile, State, numbers_of, greatest, age}
use Rattle.overlay_set.specs.Swaps.{Swap, Add, Replace, is_run, replaced, applied, after, IsAmong, IsLater}
use Rattle.overlay_set.specs.SetLaws.{LaterSelfLaw, LaterChainLaw, JournalLaw}

-- The order.

pub prefix_chain : {A : Type 0} (xs ys zs : List A) → IsPrefix xs ys → IsPrefix ys zs → IsPrefix xs zs
prefix_chain xs ys zs p q = (p.0 ++ q.0, sym (append_assoc xs p.0 q.0) ∙ ap (λ l. l ++ q.0) p.1 ∙ q.1)

pub later_self : LaterSelfLaw
later_self s = record { history = ([], append-nil s.history); grows = le_refl (age s); old = λ f h few. h }

pub later_chain : LaterChainLaw
later_chain a b c p q = record {
  history = prefix_chain a.history b.history c.history p.history q.history;
  grows = le_trans p.grows q.grows;
  old = λ f h few. p.old f (q.old f h (le_trans few p.grows)) few;
}

-- One swap.

pub greatest-add : (files : List MapFile) (f : MapFile) → greatest (numbers_of (files ++ f ∷ [])) ≡ max (greatest (numbers_of files)) f.number
greatest-add [] f = omega arith
greatest-add (g ∷ gs) f = omega (arith, greatest-add gs f)

among-add : (files : List MapFile) (f g : MapFile) → IsAmong f (files ++ g ∷ []) → (f ≡ g) ⊎ IsAmong f files
among-add [] f g (inl e) = inl e
among-add [] f g (inr h) = absurd h
among-add (x ∷ xs) f g (inl e) = inr (inl e)
among-add (x ∷ xs) f g (inr h) = ⊎_elim (λ e. inl e) (λ k. inr (inr k)) (among-add xs f g h)

among-drop : (n : ℕ) (files : List MapFile) (f : MapFile) → IsAmong f (drop n files) → IsAmong f files
among-drop zero files f h = h
among-drop (suc n) [] f h = h
among-drop (suc n) (x ∷ xs) f h = inr (among-drop n xs f h)

among-replaced : (numbers : List ℕ) (new : MapFile) (files : List MapFile) (f : MapFile) → IsAmong f (replaced numbers new files) → (f ≡ new) ⊎ IsAmong f files
among-replaced numbers new [] f h = absurd h
among-replaced numbers new (x ∷ xs) f h = go (is_run numbers (x ∷ xs)) (among-replaced numbers new xs f) h
  where
    go : (b : Bool) → (IsAmong f (replaced numbers new xs) → (f ≡ new) ⊎ IsAmong f xs)
        → IsAmong f (cond b (new ∷ drop (length numbers) (x ∷ xs)) (x ∷ replaced numbers new xs)) → (f ≡ new) ⊎ IsAmong f (x ∷ xs)
    go true ih (inl e) = inl e
    go true ih (inr k) = inr (among-drop (length numbers) (x ∷ xs) f k)
    go false ih (inl e) = inr (inl e)
    go false ih (inr k) = ⊎_elim (λ e. inl e) (λ m. inr (inr m)) (ih k)

greatest-replaced : (numbers : List ℕ) (new : MapFile) (files : List MapFile) → greatest (numbers_of files) ≤ new.number → greatest (numbers_of files) ≤ greatest (numbers_of (replaced numbers new files))
greatest-replaced numbers new [] le = omega arith
greatest-replaced numbers new (x ∷ xs) le = go (is_run numbers (x ∷ xs)) (greatest-replaced numbers new xs (omega arith))
  where
    go : (b : Bool) → greatest (numbers_of xs) ≤ greatest (numbers_of (replaced numbers new xs))
        → greatest (numbers_of (x ∷ xs)) ≤ greatest (numbers_of (cond b (new ∷ drop (length numbers) (x ∷ xs)) (x ∷ replaced numbers new xs)))
    go true ih = omega arith
    go false ih = omega arith

pub later_step : (s : State) (swap : Swap) → IsLater s (applied s swap)
later_step s (Add entry image) =
    let new : MapFile = record { number = age s + 1; image = image } in record {
      history = (entry ∷ [], refl);
      grows = omega (arith, greatest-add s.files new);
      old = λ f h few. ⊎_elim (λ (e : f ≡ new). absurd (omega (arith, ap (λ (g : MapFile). g.number) e))) (λ k. k) (among-add s.files f new h);
    }
later_step s (Replace plan image) =
    let new : MapFile = record { number = age s + 1; image = image } in record {
      history = ([], append-nil s.history);
      grows = greatest-replaced (numbers_of plan.files) new s.files (omega arith);
      old = λ f h few. ⊎_elim (λ (e : f ≡ new). absurd (omega (arith, ap (λ (g : MapFile). g.number) e))) (λ k. k) (among-replaced (numbers_of plan.files) new s.files f h);
    }

-- Journals.

pub later_after : (s : State) (swaps : List Swap) → IsLater s (after s swaps)
later_after s [] = later_self s
later_after s (swap ∷ swaps) = later_chain s (applied s swap) (after (applied s swap) swaps) (later_step s swap) (later_after (applied s swap) swaps)

pub journal_law : JournalLaw
journal_law s [] more = later_after s more
journal_law s (swap ∷ swaps) more = journal_law (applied s swap) swaps more

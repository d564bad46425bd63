-- Diagnostics added one after another. Assumes nothing.
use Rattle.std.proofs.Common.{◌≡◌, ℕ, suc, ◌-◌, Bool, true, false, ◌||◌, leb, List, [], ◌∷◌, ◌++◌, pos, negsuc, sym, refl, ap, ◌∙◌, append_assoc}
use Rattle.std.specs.Bool.{then_some}
use Rattle.std.specs.Prelude.{Option, Some, None}
use Rattle.std.specs.Option.{MatchOption}
use mathlib.Core.List.{flatten, foldl-append}
use Rattle.base.specs.Bytes.{i32_bits}
use Rattle.base.specs.Lists.{only}
use Rattle.base.proofs.BoolLaws.{or_false}
use Rattle.validator_spec.specs.Diagnostics.{Diagnostic, diagnostic, not_below, tested_step}
use Rattle.validator.specs.Terms.{as_list}
use Rattle.validator.specs.declared.state.WalkState.{WalkState}
use Rattle.validator.specs.Steps.{State, emitted, emitted_if, emit, emit_all, ended, tested_of, take_step}

-- ---- one diagnostic

-- a diagnostic of a word, with a value that is not negative
pub emits_word : (row pc code value : ℕ) (s : State) → emitted row pc code value s ≡ emit_all row (diagnostic pc code (pos value) ∷ []) s
unfolding emit_all emit i32_bits
emits_word row pc code value s = refl

-- a diagnostic of a word, with a negative value
pub emits_bits : (row pc code n : ℕ) (s : State) → emitted row pc code (4294967296 - suc n) s ≡ emit_all row (diagnostic pc code (negsuc n) ∷ []) s
unfolding emit_all emit i32_bits
emits_bits row pc code n s = refl

-- a diagnostic that has a value where a test passes
pub emits_only : (row : ℕ) (b : Bool) (d : Diagnostic) (o : Option ℕ) (s t : State) → o ≡ then_some b (i32_bits d.value) → t ≡ emitted_if row (i32_bits d.pc) d.code o s → t ≡ emit_all row (only b d) s
unfolding emit_all emit emitted_if only
emits_only row true d o s t e f = f ∙ ap (λ (v : Option ℕ). emitted_if row (i32_bits d.pc) d.code v s) e
emits_only row false d o s t e f = f ∙ ap (λ (v : Option ℕ). emitted_if row (i32_bits d.pc) d.code v s) e

-- ---- several diagnostics

flatten_append : (xss yss : List (List Diagnostic)) → flatten (xss ++ yss) ≡ flatten xss ++ flatten yss
unfolding flatten
flatten_append [] yss = refl
flatten_append (xs ∷ xss) yss = ap (λ (l : List Diagnostic). xs ++ l) (flatten_append xss yss) ∙ sym (append_assoc xs (flatten xss) (flatten yss))

pub emits_none : (row : ℕ) (s : State) → s ≡ emit_all row [] s
unfolding emit_all
emits_none row s = refl

pub emits_append : (row : ℕ) (xs ys : List Diagnostic) (s : State) → emit_all row (xs ++ ys) s ≡ emit_all row ys (emit_all row xs s)
unfolding emit_all
emits_append row xs ys s = foldl-append (emit row) s xs ys

-- one list after another
pub emits_then : (row : ℕ) (xs ys : List Diagnostic) (s t u : State) → t ≡ emit_all row xs s → u ≡ emit_all row ys t → u ≡ emit_all row (xs ++ ys) s
emits_then row xs ys s t u e f = f ∙ ap (emit_all row ys) e ∙ sym (emits_append row xs ys s)

module _ (row : ℕ) where
  pub emits_end : (xs : List Diagnostic) (s t : State) → t ≡ emit_all row xs s → t ≡ emit_all row (flatten (xs ∷ [])) s
  unfolding flatten
  emits_end xs s t e = emits_then row xs [] s t t e (emits_none row t)

  pub emits_cons : (xs : List Diagnostic) (xss : List (List Diagnostic)) (s t u : State) → t ≡ emit_all row xs s → u ≡ emit_all row (flatten xss) t → u ≡ emit_all row (flatten (xs ∷ xss)) s
  unfolding flatten
  emits_cons xs xss s t u e f = emits_then row xs (flatten xss) s t u e f

  pub emits_join : (xss yss : List (List Diagnostic)) (s t u : State) → t ≡ emit_all row (flatten xss) s → u ≡ emit_all row (flatten yss) t → u ≡ emit_all row (flatten (xss ++ yss)) s
  emits_join xss yss s t u e f = emits_then row (flatten xss) (flatten yss) s t u e f ∙ ap (λ (ds : List Diagnostic). emit_all row ds s) (sym (flatten_append xss yss))

-- ---- operands that are not below their limit

module _ (row pc code limit : ℕ) (s : State) where
  -- the word names nothing
  pub emits_unnamed : s ≡ emit_all row (not_below pc code limit (as_list None)) s
  unfolding not_below
  emits_unnamed = emits_none row s

  -- it names this
  pub emits_over : (value : ℕ) → emitted_if row pc code (then_some (leb limit value) value) s ≡ emit_all row (not_below pc code limit (as_list (Some value))) s
  unfolding emitted_if not_below
  emits_over value = go (leb limit value) refl
    where
      go : (b : Bool) → leb limit value ≡ b → emitted_if row pc code (then_some b value) s ≡ emit_all row (not_below pc code limit (as_list (Some value))) s
      go true q = rw q (emits_word row pc code value s)
      go false q = rw q (emits_none row s)

  -- it may name something, and what is not below the limit was kept
  pub emits_filtered : (operand over : Option ℕ) (P : ℕ → Bool → Type 0) (t : State) → ((x : ℕ) (b : Bool) → P x b → b ≡ leb limit x)
      → MatchOption operand (over ≡ None) (λ x. (b : Bool) × P x b × (over ≡ then_some b x)) → t ≡ emitted_if row pc code over s → t ≡ emit_all row (not_below pc code limit (as_list operand)) s
  unfolding emitted_if
  emits_filtered None over P t f m e = e ∙ ap (λ (o : Option ℕ). emitted_if row pc code o s) m ∙ emits_unnamed
  emits_filtered (Some x) over P t f m e = e ∙ ap (λ (o : Option ℕ). emitted_if row pc code o s) (m.2 ∙ ap (λ (b : Bool). then_some b x) (f x m.0 m.1)) ∙ emits_over x

-- ---- after a test

-- the test is that of `take_step`
pub tests : (w t : WalkState) (b : Bool) → t ≡ tested_of w → t.limit ≡ b → (w.limit || leb w.stop w.count) ≡ b
unfolding tested_of
tests w t b e l = sym (ap (λ (x : WalkState). x.limit) e) ∙ l

-- where the test ends the walk, all else stays
pub tested_ended : (w t : WalkState) → t ≡ tested_of w → t.limit ≡ true → t ≡ ended w
unfolding tested_of
tested_ended w t e l = e ∙ rw (tests w t true e l)

-- where the test does not end the walk, the state is as it was
pub tested_going : (w t : WalkState) → t ≡ tested_of w → t.limit ≡ false → t ≡ w
unfolding tested_of
tested_going w t e l =
    let q = tests w t false e l in
    let o : w.limit ≡ false = (or_false w.limit (leb w.stop w.count) q).0 in
    e ∙ (λ i. record { row = w.row; first = w.first; stop = w.stop; count = w.count; error = w.error; limit = (q ∙ sym o) i })

-- a tested step, where the test ends the walk and where it does not
module _ (row : ℕ) (ds : List Diagnostic) (s : State) (t : WalkState) (e : t ≡ tested_of s.0) where
  pub step_ends : t.limit ≡ true → ◌≡◌ {A = State} (t, s.1) (take_step row s (tested_step ds))
  unfolding take_step tested_step
  step_ends l = rw (tests s.0 t true e l, tested_ended s.0 t e l)

  pub step_adds : (u : State) → t.limit ≡ false → u ≡ emit_all row ds (t, s.1) → u ≡ take_step row s (tested_step ds)
  unfolding take_step tested_step
  step_adds u l f = rw (tests s.0 t false e l) (f ∙ ap (λ (w : WalkState). emit_all row ds (w, s.1)) (tested_going s.0 t e l))

-- A word that passes the fast test has no diagnostics: what its opcode has in the table, and what the tests with it say of its operands and of where it
-- goes. Assumes nothing.
use Rattle.std.proofs.Common.{◌≡◌, ℕ, zero, suc, ◌+◌, ◌-◌, ◌*◌, ◌/◌, ◌%◌, ◌<◌, ◌≤◌, Bool, true, false, not, ◌&&◌, ◌||◌, T, eqb, ltb, leb, List, [], ◌∷◌, length, get_or, pos, ◌-ℤ◌, sym, refl, ap, ◌∙◌, subst, not-suc-le-zero, arith, eqb→eq, ltb→lt, leb→le, ltb-true, le-ltb, eqb-true, leb-false, leb-true}
use mathlib.Core.Path.{subst⁻¹}
use mathlib.Core.Bool.{and-false}
use borrow.Author.Tests.{eqb-false}
use Rattle.base.specs.Bytes.{u32s}
use Rattle.base.specs.Lists.{elem, every, only, up_from, all_nil, all_cons}
use Rattle.opcodes.specs.Words.{Field, B, C, decoded, opcode, operand, field_a, field_bx, is, is_constant, constant_index, without_a, with_sbx, LOADK, GETGLOBAL, SETGLOBAL, GETUPVAL, SETUPVAL, EQ, LT, LE, SELF, FORPREP, FORLOOP, TFORLOOP, CALL, TAILCALL, RETURN, VARARG, SETLIST, CLOSURE, LOADBOOL, offset_sbx, opcode_count}
use Rattle.opcodes.specs.declared.RawInstruction51.{RawInstruction51}
use Rattle.base.proofs.AllLaws.{all_flatten}
use Rattle.opcodes.proofs.FieldLaws.{operand_below}
use Rattle.base.proofs.BoolLaws.{t_and, t_true, t_false, double_not, by_or}
use Rattle.roles_spec.specs.Roles.{Role, Executable, executable_at, is_executable, role_at, word_at, binding_words, role_in}
use Rattle.roles_spec.specs.Table.{Proto}
use Rattle.roles_spec.proofs.RoleLaws.{executable}
use Rattle.opcodes.proofs.SplitLaws.{raw_of, split_again}
use Rattle.validator_spec.specs.Operands.{is_jump, is_skip, is_loadbool_skip, skip_target, constant_bx, upvalue_b, flag_a, flag_limit, register_a, span_ends, register_in, constant_in, child_bx, is_unknown}
use Rattle.validator_spec.specs.Rules.{Below, Lands, JumpKept, BindingKept, registers_of, constants_of}
use Rattle.validator_spec.specs.Diagnostics.{diagnostics_at}
use Rattle.validator_spec.proofs.RuleDiagnosticLaws.{known_none}
use Rattle.validator.specs.Clean.{FlowKept, OperandsBelow, slot_limits, names_nothing, slot, shapes}
use Rattle.validator.specs.Terms.{Describes, HasLimits, Stands}
use Rattle.validator.specs.declared.clean.Flow.{Flow}
use Rattle.validator.specs.declared.clean.Flow.TheVariants.{Next, Target, Past}
use Rattle.validator.specs.declared.clean.Shape.{Shape}
use Rattle.validator.specs.declared.rows.RowLimits.{RowLimits}
use Rattle.validator.proofs.DescribedLaws.{looked_up, word_read}
use Rattle.validator.proofs.OwnStepLaws.{executes}
use Rattle.validator.proofs.BindingLaws.{bindings_end, only_closures}
use Rattle.validator.proofs.KnownOperandLaws.{skips, split_number, split_a, split_b, split_c, split_bx}
use Rattle.validator.proofs.WordLaws.{target_sum}

-- ---- what an opcode has in the table

-- f gives k at every opcode of a list
has : (ops : List ℕ) (f : ℕ → ℕ) (k n : ℕ) → T (every (λ m. eqb (f m) k) ops) → T (elem n ops) → f n ≡ k
has [] f k n a t = absurd t
has (m ∷ ops) f k n a t =
    let both = t_and (eqb (f m) k) (every (λ i. eqb (f i) k) ops) a in
    by_or (eqb n m) (elem n ops) (λ e. ap f (eqb→eq n m e) ∙ eqb→eq (f m) k both.0) (has ops f k n both.1) t

-- a test of every number from i on, at one of them
up_to : (f : ℕ → Bool) (i k n : ℕ) → T (every f (up_from i k)) → i ≤ n → n < i + k → T (f n)
up_to f i zero n a l h = absurd (omega arith)
up_to f i (suc k) n a l h = go (eqb i n) refl (λ g. up_to f (suc i) k n both.1 g (omega arith))
  where
    both : T (f i) × T (every f (up_from (suc i) k))
    both = t_and (f i) (every f (up_from (suc i) k)) a

    go : (b : Bool) → eqb i n ≡ b → (suc i ≤ n → T (f n)) → T (f n)
    go true e rest = subst (λ (m : ℕ). T (f m)) (eqb-true i n e) both.0
    go false e rest = rest (let other = eqb-false i n e in omega arith)

-- an operand is below a limit, where the word names it
below_if : (b : Bool) (x limit : ℕ) → (T b → x < limit) → Below limit (only b x)
unfolding only
below_if true x limit f = all_cons (f tt) all_nil
below_if false x limit f = all_nil

abbrev names : ℕ → Shape
names n = get_or shapes n names_nothing

-- a number for each flow
way : Flow → ℕ
way Next = 0
way Target = 1
way (Past k) = 2 + k

way_target : (f : Flow) → way f ≡ 1 → f ≡ Target
unfolding way
way_target Next e = absurd (omega (arith, e))
way_target Target e = refl
way_target (Past k) e = absurd (omega (arith, e))

way_past : (f : Flow) (k : ℕ) → way f ≡ 2 + k → f ≡ Past k
unfolding way
way_past Next k e = absurd (omega (arith, e))
way_past Target k e = absurd (omega (arith, e))
way_past (Past j) k e = ap Past (omega (arith, e))

-- ---- operands

module _ (q : RowLimits) (w : ℕ) where
  abbrev limit : ℕ → ℕ
  limit k = get_or (slot_limits q) k 0

  -- a value is below the limit that its opcode has a slot of
  at : (x slot k : ℕ) → ltb x (limit slot) ≡ true → slot ≡ k → x < limit k
  at x slot k h e = subst (λ (i : ℕ). x < limit i) e (ltb-true _ _ h)

  module _ (h : ltb (field_a w) (limit (slot (names (opcode w)).a)) ≡ true) where
    flag : Below flag_limit (flag_a w)
    unfolding flag_a is shapes slot_limits
    flag = below_if _ _ _ (λ t. at _ _ 8 h (has (EQ ∷ LT ∷ LE ∷ []) (λ n. slot (names n).a) 8 (opcode w) tt t))

    register : opcode w < opcode_count → Below q.stack (register_a w)
    unfolding register_a is shapes slot_limits
    register known =
        below_if _ _ _ (λ t.
        let rest = t_false (elem (opcode w) without_a) (t_and (not (is_unknown w)) (not (elem (opcode w) without_a)) t).1 in
        let two = up_to (λ n. elem n without_a || eqb (slot (names n).a) 2) 0 opcode_count (opcode w) tt (omega arith) known in
        at _ _ 2 h (eqb→eq (slot (names (opcode w)).a) 2 (subst (λ (b : Bool). T (b || eqb (slot (names (opcode w)).a) 2)) rest two)))

  module _ (h : ltb (field_bx w) (limit (slot (names (opcode w)).bx)) ≡ true) where
    constant : Below q.constants (constant_bx w)
    unfolding constant_bx is shapes slot_limits
    constant = below_if _ _ _ (λ t. at _ _ 5 h (has (LOADK ∷ GETGLOBAL ∷ SETGLOBAL ∷ []) (λ n. slot (names n).bx) 5 (opcode w) tt t))

    child : Below q.children (child_bx w)
    unfolding child_bx is shapes slot_limits
    child = below_if _ _ _ (λ t. at _ _ 9 h (has (CLOSURE ∷ []) (λ n. slot (names n).bx) 9 (opcode w) tt t))

  -- B or C
  module _ (f : Field) (slot : ℕ) (h : ltb (operand f w % 256) (limit (slot + operand f w / 256)) ≡ true) where
    -- where values with the bit of a constant have the limit 0
    plain : (k : ℕ) → slot ≡ k → limit (k + 1) ≡ 0 → operand f w < limit k
    plain k e z = go (leb 256 (operand f w)) refl
      where
        go : (b : Bool) → leb 256 (operand f w) ≡ b → operand f w < limit k
        go true l =
            let high = leb-true 256 (operand f w) l in
            let none = at _ _ (k + 1) h (omega (arith, operand_below f w)) in
            absurd (not-suc-le-zero (subst (λ (n : ℕ). operand f w % 256 < n) z none))
        go false l =
            let low = leb-false 256 (operand f w) l in
            let same : operand f w % 256 ≡ operand f w = omega arith in
            subst (λ (n : ℕ). n < limit k) same (at _ _ k h (omega arith))

    module _ (fixed : T (is w f.fixed) → slot ≡ 2) (rk : T (is w f.rk) → slot ≡ 4) where
      field_register : Below q.stack (register_in f w)
      unfolding register_in is_constant slot_limits
      field_register =
          below_if _ _ _
          (by_or (is w f.fixed) (is w f.rk && not (leb 256 (operand f w)))
          (λ t. plain 2 (fixed t) refl)
          (λ t.
          let both = t_and (is w f.rk) (not (leb 256 (operand f w))) t in
          let low = leb-false 256 (operand f w) (t_false (leb 256 (operand f w)) both.1) in
          let same : operand f w % 256 ≡ operand f w = omega arith in
          let slot-4 = rk both.0 in
          subst (λ (n : ℕ). n < q.stack) same (at (operand f w % 256) (slot + operand f w / 256) 4 h (omega arith))))

      field_constant : Below q.constants (constant_in f w)
      unfolding constant_in is_constant constant_index slot_limits
      field_constant =
          below_if _ _ _ (λ t.
          let both = t_and (is w f.rk) (leb 256 (operand f w)) t in
          let high = leb→le 256 (operand f w) both.1 in
          let same : operand f w % 256 ≡ operand f w - 256 = omega (arith, operand_below f w) in
          let slot-4 = rk both.0 in
          rw (t_true (leb 256 (operand f w)) both.1) (subst (λ (n : ℕ). n < q.constants) same (at (operand f w % 256) (slot + operand f w / 256) 5 h (omega (arith, operand_below f w)))))

  upvalue : ltb (operand B w % 256) (limit (slot (names (opcode w)).b + operand B w / 256)) ≡ true → Below q.upvalues (upvalue_b w)
  unfolding upvalue_b is shapes slot_limits
  upvalue h = below_if _ _ _ (λ t. plain B _ h 6 (has (GETUPVAL ∷ SETUPVAL ∷ []) (λ n. slot (names n).b) 6 (opcode w) tt t) refl)

  -- the spans that B and C end
  module _ (h : leb (field_a w + (names (opcode w)).b_span / 2 + (names (opcode w)).b_span % 2 * operand B w) (q.stack + 1) ≡ true)
      (g : leb (field_a w + (names (opcode w)).c_span / 2 + (names (opcode w)).c_span % 2 * operand C w) (q.stack + 1) ≡ true) where
    by_b : (ops : List ℕ) (k : ℕ) → T (every (λ n. eqb ((names n).b_span) k) ops) → T (is w ops) → field_a w + k / 2 + k % 2 * operand B w ≤ q.stack + 1
    unfolding is
    by_b ops k a t = subst (λ (i : ℕ). field_a w + i / 2 + i % 2 * operand B w ≤ q.stack + 1) (has ops (λ n. (names n).b_span) k (opcode w) a t) (leb-true _ _ h)

    by_c : (ops : List ℕ) (k : ℕ) → T (every (λ n. eqb ((names n).c_span) k) ops) → T (is w ops) → field_a w + k / 2 + k % 2 * operand C w ≤ q.stack + 1
    unfolding is
    by_c ops k a t = subst (λ (i : ℕ). field_a w + i / 2 + i % 2 * operand C w ≤ q.stack + 1) (has ops (λ n. (names n).c_span) k (opcode w) a t) (leb-true _ _ g)

    both : (ops : List ℕ) (least x : ℕ) → T (is w ops && ltb least x) → T (is w ops) × (least < x)
    both ops least x t = let s = t_and (is w ops) (ltb least x) t in (s.0, ltb→lt least x s.1)

    spans : Below q.stack (span_ends w)
    unfolding span_ends shapes
    spans =
        all_flatten (
        all_cons (below_if _ _ _ (λ t. let l = by_b (SELF ∷ []) 6 tt t in omega arith)) (
        all_cons (below_if _ _ _ (λ t. let l = by_b (FORPREP ∷ FORLOOP ∷ []) 10 tt t in omega arith)) (
        all_cons (below_if _ _ _ (λ t. let l = by_c (TFORLOOP ∷ []) 9 tt t in omega arith)) (
        all_cons (below_if _ _ _ (λ t. let s = both (CALL ∷ []) 0 (operand B w) t in let l = by_b (CALL ∷ []) 3 tt s.0 in omega (arith, s.1))) (
        all_cons (below_if _ _ _ (λ t. let s = both (CALL ∷ []) 1 (operand C w) t in let l = by_c (CALL ∷ []) 1 tt s.0 in omega (arith, s.1))) (
        all_cons (below_if _ _ _ (λ t. let s = both (TAILCALL ∷ []) 0 (operand B w) t in let l = by_b (TAILCALL ∷ []) 3 tt s.0 in omega (arith, s.1))) (
        all_cons (below_if _ _ _ (λ t. let s = both (RETURN ∷ VARARG ∷ []) 1 (operand B w) t in let l = by_b (RETURN ∷ VARARG ∷ []) 1 tt s.0 in omega (arith, s.1))) (
        all_cons (below_if _ _ _ (λ t. let s = both (SETLIST ∷ []) 0 (operand B w) t in let l = by_b (SETLIST ∷ []) 5 tt s.0 in omega (arith, s.1)))
        all_nil))))))))

  -- all of them
  pub operands : opcode w < opcode_count → ltb (field_a w) (limit (slot (names (opcode w)).a)) ≡ true → ltb (field_bx w) (limit (slot (names (opcode w)).bx)) ≡ true
      → ltb (operand B w % 256) (limit (slot (names (opcode w)).b + operand B w / 256)) ≡ true
      → ltb (operand C w % 256) (limit (slot (names (opcode w)).c + operand C w / 256)) ≡ true
      → leb (field_a w + (names (opcode w)).b_span / 2 + (names (opcode w)).b_span % 2 * operand B w) (q.stack + 1) ≡ true
      → leb (field_a w + (names (opcode w)).c_span / 2 + (names (opcode w)).c_span % 2 * operand C w) (q.stack + 1) ≡ true
      → OperandsBelow q w
  unfolding registers_of constants_of is shapes B C
  operands known a bx b c sb sc =
      let fixed-b : T (elem (opcode w) B.fixed) → slot (names (opcode w)).b ≡ 2 = has B.fixed (λ n. slot (names n).b) 2 (opcode w) tt in
      let rk-b : T (elem (opcode w) B.rk) → slot (names (opcode w)).b ≡ 4 = has B.rk (λ n. slot (names n).b) 4 (opcode w) tt in
      let fixed-c : T (elem (opcode w) C.fixed) → slot (names (opcode w)).c ≡ 2 = has C.fixed (λ n. slot (names n).c) 2 (opcode w) tt in
      let rk-c : T (elem (opcode w) C.rk) → slot (names (opcode w)).c ≡ 4 = has C.rk (λ n. slot (names n).c) 4 (opcode w) tt in
      record {
        constant = all_flatten (all_cons (constant bx) (all_cons (field_constant B _ b fixed-b rk-b) (all_cons (field_constant C _ c fixed-c rk-c) all_nil)));
        upvalue = upvalue b;
        flag = flag a;
        register = all_flatten (all_cons (register a known) (all_cons (spans sb sc) (all_cons (field_register B _ b fixed-b rk-b) (all_cons (field_register C _ c fixed-c rk-c) all_nil))));
        child = child bx;
      }

-- ---- as the code has them

-- the slots are in the list
bounded : (f : ℕ → ℕ) (k n : ℕ) → T (every (λ m. ltb (f m) k) (up_from 0 opcode_count)) → n < opcode_count → f n < k
bounded f k n t h = ltb→lt (f n) k (up_to (λ m. ltb (f m) k) 0 opcode_count n t (omega arith) h)

module _ (q : RowLimits) (limits : List ℕ) (s : Shape) (w : RawInstruction51)
    (known : limits ≡ slot_limits q) (pre : (w ≡ decoded w.raw) × (w.opcode_num < opcode_count) × (s ≡ names w.opcode_num)) where
  ten : length limits ≡ 10
  unfolding slot_limits
  ten = ap length known

  pub slot_a : slot s.a < length limits
  unfolding shapes
  slot_a = rw (pre.2, ten) (bounded (λ m. slot (names m).a) 10 w.opcode_num tt pre.1)

  pub slot_bx : slot s.bx < length limits
  unfolding shapes
  slot_bx = rw (pre.2, ten) (bounded (λ m. slot (names m).bx) 10 w.opcode_num tt pre.1)

  pub slot_b : (slot s.b + 1 < length limits) × (w.b < 512)
  unfolding shapes
  slot_b = (rw (pre.2, ten) (bounded (λ m. slot (names m).b + 1) 10 w.opcode_num tt pre.1), subst⁻¹ (λ (n : ℕ). n < 512) (split_b w pre.0) (operand_below B w.raw))

  pub slot_c : (slot s.c + 1 < length limits) × (w.c < 512)
  unfolding shapes
  slot_c = (rw (pre.2, ten) (bounded (λ m. slot (names m).c + 1) 10 w.opcode_num tt pre.1), subst⁻¹ (λ (n : ℕ). n < 512) (split_c w pre.0) (operand_below C w.raw))

  of_opcode : s ≡ names (opcode w.raw)
  of_opcode = pre.2 ∙ ap names (split_number w pre.0)

  pub operands_of : ltb w.a (get_or limits (slot s.a) 0) ≡ true → ltb w.bx (get_or limits (slot s.bx) 0) ≡ true
      → ltb (w.b % 256) (get_or limits (slot s.b + w.b / 256) 0) ≡ true → ltb (w.c % 256) (get_or limits (slot s.c + w.c / 256) 0) ≡ true
      → leb (w.a + s.b_span / 2 + s.b_span % 2 * w.b) (q.stack + 1) ≡ true → leb (w.a + s.c_span / 2 + s.c_span % 2 * w.c) (q.stack + 1) ≡ true
      → OperandsBelow q w.raw
  operands_of a bx b c sb sc =
      operands q w.raw (subst (λ (n : ℕ). n < opcode_count) (split_number w pre.0) pre.1) (as_known _ _ (λ s. slot s.a) (split_a w pre.0) a) (as_known _ _ (λ s. slot s.bx) (split_bx w pre.0) bx)
      (field_of _ _ (λ s. slot s.b) (split_b w pre.0) b) (field_of _ _ (λ s. slot s.c) (split_c w pre.0) c)
      (span_of _ _ (λ s. s.b_span) (split_b w pre.0) sb) (span_of _ _ (λ s. s.c_span) (split_c w pre.0) sc)
    where
      -- a test with a slot and a value
      as_known : (x y : ℕ) (f : Shape → ℕ) → x ≡ y → ltb x (get_or limits (f s) 0) ≡ true → ltb y (get_or (slot_limits q) (f (names (opcode w.raw))) 0) ≡ true
      as_known x y f e h =
          ap (λ (n : ℕ). ltb n (get_or (slot_limits q) (f (names (opcode w.raw))) 0)) (sym e)
          ∙ ap (λ (n : Shape). ltb x (get_or (slot_limits q) (f n) 0)) (sym of_opcode)
          ∙ ap (λ (l : List ℕ). ltb x (get_or l (f s) 0)) (sym known)
          ∙ h

      field_of : (x y : ℕ) (f : Shape → ℕ) → x ≡ y → ltb (x % 256) (get_or limits (f s + x / 256) 0) ≡ true → ltb (y % 256) (get_or (slot_limits q) (f (names (opcode w.raw)) + y / 256) 0) ≡ true
      field_of x y f e h =
          subst (λ (z : ℕ). ltb (z % 256) (get_or (slot_limits q) (f (names (opcode w.raw)) + z / 256) 0) ≡ true) e (as_known (x % 256) (x % 256) (λ n. f n + x / 256) refl h)

      span_of : (x y : ℕ) (f : Shape → ℕ) → x ≡ y → leb (w.a + f s / 2 + f s % 2 * x) (q.stack + 1) ≡ true
          → leb (field_a w.raw + f (names (opcode w.raw)) / 2 + f (names (opcode w.raw)) % 2 * y) (q.stack + 1) ≡ true
      span_of x y f e h =
          subst (λ (z : ℕ). leb (field_a w.raw + f (names (opcode w.raw)) / 2 + f (names (opcode w.raw)) % 2 * z) (q.stack + 1) ≡ true) e
          (subst (λ (n : Shape). leb (field_a w.raw + f n / 2 + f n % 2 * x) (q.stack + 1) ≡ true) of_opcode
          (subst (λ (a : ℕ). leb (a + f s / 2 + f s % 2 * x) (q.stack + 1) ≡ true) (split_a w pre.0) h))

-- ---- where a word goes

module _ (p : Proto) (pc : ℕ) (k : FlowKept p (names (opcode (word_at p pc))).flow pc (field_bx (word_at p pc))) where
  -- an executable word stands ahead
  ahead : (ops : List ℕ) (i : ℕ) → T (every (λ n. eqb (way (names n).flow) (2 + i)) ops) → T (is (word_at p pc) ops) → T (is_executable (role_at p (pc + i)))
  unfolding is
  ahead ops i a t = k.ahead i (way_past (names (opcode (word_at p pc))).flow i (has ops (λ n. way (names n).flow) (2 + i) (opcode (word_at p pc)) a t))

  pub jump : JumpKept p pc
  unfolding is_jump is_skip is_loadbool_skip skip_target is shapes way
  jump =
      record {
        target = λ t. subst (Lands p) (sym (target_sum pc (word_at p pc)))
            (k.target (way_target (names (opcode (word_at p pc))).flow (has with_sbx (λ n. way (names n).flow) 1 (opcode (word_at p pc)) tt t)));
        skip = by_or (is (word_at p pc) skips) (is (word_at p pc) (LOADBOOL ∷ []) && ltb 0 (operand C (word_at p pc))) (ahead skips 2 tt)
            (λ t. ahead (LOADBOOL ∷ []) 2 tt (t_and (is (word_at p pc) (LOADBOOL ∷ [])) (ltb 0 (operand C (word_at p pc))) t).0);
      }

  -- it has no binding words
  no_words : Executable p pc → binding_words p pc ≡ 0
  unfolding shapes way
  no_words x = go (is (word_at p pc) (CLOSURE ∷ [])) refl
    where
      go : (b : Bool) → is (word_at p pc) (CLOSURE ∷ []) ≡ b → binding_words p pc ≡ 0
      go true e =
          let t : T (is (word_at p pc) (CLOSURE ∷ [])) = subst⁻¹ T e tt in
          let end = bindings_end p pc x t (pc + 1) (omega arith) (omega arith) (t_true _ (ahead (CLOSURE ∷ []) 1 tt t)) in
          omega (arith, end)
      go false e = only_closures p pc e

  pub bindings : Executable p pc → (j : ℕ) → j < binding_words p pc → BindingKept p (word_at p (pc + 1 + j))
  bindings x j h = absurd (omega (arith, no_words x))

-- ---- as the code finds it

module _ (p : Proto) (q : RowLimits) (roles : List ℕ) (h : Stands p q roles) where
  -- a word where no companion was found
  stands : (pc : ℕ) (b : Bool) → b ≡ not (is_executable (role_in roles pc)) → not b ≡ true → T (is_executable (role_at p pc))
  stands pc b e t =
      subst (λ (r : Role). T (is_executable r)) (h.roles pc) (double_not (is_executable (role_in roles pc)) (subst T (sym t ∙ ap not e) tt))

  pub lands : (sum : ℕ) → offset_sbx ≤ sum → sum - offset_sbx < q.words → (b : Bool) → b ≡ not (is_executable (role_in roles (sum - offset_sbx))) → not b ≡ true → Lands p (pos sum -ℤ pos offset_sbx)
  lands sum l m b e t = rw (le-ltb sum offset_sbx l) (executable p (sum - offset_sbx) (omega (arith, h.words)) (stands (sum - offset_sbx) b e t))

-- ---- the word

pub clean : (p : Proto) (q : RowLimits) (pc : ℕ) → HasLimits p q → Executable p pc → opcode (word_at p pc) < opcode_count → OperandsBelow q (word_at p pc)
    → FlowKept p (names (opcode (word_at p pc))).flow pc (field_bx (word_at p pc)) → diagnostics_at p pc ≡ []
unfolding is_unknown
clean p q pc l x known o k =
    known_none p pc (subst⁻¹ (λ (b : Bool). T (not b)) (le-ltb VARARG (opcode (word_at p pc)) (omega arith)) tt)
    (record {
      jump = jump p pc k;
      constant = subst⁻¹ (λ (n : ℕ). Below n (constants_of (word_at p pc))) l.constants o.constant;
      upvalue = subst⁻¹ (λ (n : ℕ). Below n (upvalue_b (word_at p pc))) l.upvalues o.upvalue;
      flag = o.flag;
      register = subst⁻¹ (λ (n : ℕ). Below n (registers_of (word_at p pc))) l.stack o.register;
      proto = subst⁻¹ (λ (n : ℕ). Below n (child_bx (word_at p pc))) l.children o.child;
      binding = bindings p pc k x;
    })

module _ (p : Proto) (q : RowLimits) (code roles : List ℕ) (d : Describes p q code roles) (pc : ℕ) where
  -- a companion has none
  pub companion_clean : (b : Bool) → b ≡ not (is_executable (role_in roles pc)) → b ≡ true → diagnostics_at p pc ≡ []
  unfolding diagnostics_at executable_at
  companion_clean b e f = rw (looked_up p q code roles d pc b false e f, and-false)

  -- the word that was read
  pub word_clean : pc < length code / 4 → (b : Bool) → b ≡ not (is_executable (role_in roles pc)) → b ≡ false → (v : ℕ) (w : RawInstruction51) → v ≡ get_or (u32s code) pc 0 → w ≡ decoded v → w.opcode_num ≤ VARARG
      → OperandsBelow q w.raw → (s : Shape) → s ≡ names w.opcode_num → FlowKept p s.flow pc w.bx → diagnostics_at p pc ≡ []
  word_clean there b e f v w read split known o s as_list k =
      let again = split_again v w split in
      let raw : w.raw ≡ word_at p pc = raw_of v w split ∙ read ∙ word_read p q code roles d pc in
      let number : w.opcode_num ≡ opcode (word_at p pc) = split_number w again ∙ ap opcode raw in
      let bx : w.bx ≡ field_bx (word_at p pc) = split_bx w again ∙ ap field_bx raw in
      clean p q pc d.limits (executes p q code roles d pc there b e f) (omega (arith, number)) (subst (OperandsBelow q) raw o)
      (subst (λ (n : ℕ). FlowKept p (names (opcode (word_at p pc))).flow pc n) bx (subst (λ (n : Shape). FlowKept p n.flow pc w.bx) (as_list ∙ ap names number) k))

-- ---- the words one after another

-- the words from `from` up to pc have no diagnostics
pub record CleanPass (q : RowLimits) (code roles : List ℕ) (from pc : ℕ) : Type 0 where
  pub later : from ≤ pc
  pub within : pc ≤ length code / 4
  pub none : (p : Proto) → Describes p q code roles → (i : ℕ) → from ≤ i → i < pc → diagnostics_at p i ≡ []

-- The label rule passes exactly what the typing rules derive. Assumes nothing.
use Rattle.std.proofs.Common.{◌≡◌, ℕ, ◌<◌, true, [], ◌∷◌, refl}
use Rattle.std.proofs.lemmas.Bool.{and_parts, and_from}
use Rattle.language.specs.Expression.{Expr, input, constant, variable, binary}
use Rattle.language.specs.Block.{Block, done, skip, assign, output, branch, repeat, Tree}
use Rattle.language.specs.Step.{command}
use Rattle.typing.specs.Labels.{Labels, Lawful, Under}
use Rattle.typing.specs.Rule.{level_of, raised, passes, passes_all}
use Rattle.typing.specs.Derivation.{TypedExpression, typed_input, typed_constant, typed_variable, typed_binary, TypedCommand, typed_idle, typed_skip, typed_assign, typed_output, typed_sequence, typed_branch, typed_while, Typed, typed_none, typed_handler}
use Rattle.typing.specs.Laws.{PassingIsTyping}
use Rattle.typing.proofs.Levels.{under_trans, under_self, lower_level, upper_level, binary_least, raised_least}

module _ {labels : Labels} (ok : Lawful labels) (x : ℕ) (hx : x < labels.scheme.count) where
  -- an expression has its level
  level_typed : (e : Expr) → TypedExpression labels x e (level_of labels x e)
  level_typed input = typed_input (under_self ok hx)
  level_typed (constant k) = typed_constant
  level_typed (variable v) = typed_variable (under_self ok (ok.variables v))
  level_typed (binary o a b) =
      let j = binary_least ok x hx a b in
      typed_binary (level_of labels x a) (level_of labels x b) (level_typed a) (level_typed b) j.left j.right

  -- what is above any level of an expression is above its own
  level_under : {e : Expr} {l : ℕ} (t : ℕ) → TypedExpression labels x e l → Under labels l t → Under labels (level_of labels x e) t
  level_under t (typed_input h) u = under_trans ok h u
  level_under t typed_constant u = ok.lattice.bottom t (upper_level ok u)
  level_under t (typed_variable h) u = under_trans ok h u
  level_under t (typed_binary {a = a} {b = b} la lb p q h k) u =
      (binary_least ok x hx a b).least t (level_under t p (under_trans ok h u)) (level_under t q (under_trans ok k u))

  -- what passes on a ground has it as its program counter level
  typed_from : (g : ℕ) → g < labels.scheme.count → (p : Block) → passes labels x g p ≡ true → TypedCommand labels x (command p) g
  typed_from g hg done t = typed_idle
  typed_from g hg (skip k) t = typed_sequence g g typed_skip (typed_from g hg k t) (under_self ok hg) (under_self ok hg)
  typed_from g hg (assign v e k) t =
      let j = raised_least ok x hx g hg e in
      let parts = and_parts _ _ t in
      typed_sequence g g
      (typed_assign (level_of labels x e) (level_typed e) (under_trans ok j.right parts.0) (under_trans ok j.left parts.0))
      (typed_from g hg k parts.1) (under_self ok hg) (under_self ok hg)
  typed_from g hg (output c e k) t =
      let j = raised_least ok x hx g hg e in
      let parts = and_parts _ _ t in
      typed_sequence g g
      (typed_output (level_of labels x e) (level_typed e) (under_trans ok j.right parts.0) (under_trans ok j.left parts.0))
      (typed_from g hg k parts.1) (under_self ok hg) (under_self ok hg)
  typed_from g hg (branch w e p q k) t =
      let j = raised_least ok x hx g hg e in
      let r = raised labels x g e in
      let hr = upper_level ok j.left in
      let parts = and_parts _ _ t in
      let rest = and_parts _ _ parts.1 in
      typed_sequence g g
      (typed_branch (level_of labels x e) r r (level_typed e) (typed_from r hr p parts.0) (typed_from r hr q rest.0) j.right j.right j.left j.left)
      (typed_from g hg k rest.1) (under_self ok hg) (under_self ok hg)
  typed_from g hg (repeat e p k) t =
      let j = raised_least ok x hx g hg e in
      let r = raised labels x g e in
      let parts = and_parts _ _ t in
      typed_sequence g g
      (typed_while (level_of labels x e) r (level_typed e) (typed_from r (upper_level ok j.left) p parts.0) j.right j.left)
      (typed_from g hg k parts.1) (under_self ok hg) (under_self ok hg)

  -- a ground below a level, raised by an expression whose level is below it, is still below it
  raised_under : {g l : ℕ} {e : Expr} (t : ℕ) → TypedExpression labels x e l → Under labels g t → Under labels l t → Under labels (raised labels x g e) t
  raised_under {g} {l} {e} t he gt lt = (raised_least ok x hx g (lower_level ok gt) e).least t gt (level_under t he lt)

  -- what has a program counter level passes on every ground at or below it
  passes_from : (g pc : ℕ) → Under labels g pc → (p : Block) → TypedCommand labels x (command p) pc → passes labels x g p ≡ true
  passes_from g pc u done t = refl
  passes_from g pc u (skip k) (typed_sequence pca pcb t tk ha hk) = passes_from g pcb (under_trans ok u hk) k tk
  passes_from g pc u (assign v e k) (typed_sequence pca pcb (typed_assign l te lv pv) tk ha hk) =
      and_from _ _ (raised_under (labels.of_variable v) te (under_trans ok u (under_trans ok ha pv)) lv) (passes_from g pcb (under_trans ok u hk) k tk)
  passes_from g pc u (output c e k) (typed_sequence pca pcb (typed_output l te lc pc') tk ha hk) =
      and_from _ _ (raised_under (labels.of_channel c) te (under_trans ok u (under_trans ok ha pc')) lc) (passes_from g pcb (under_trans ok u hk) k tk)
  passes_from g pc u (branch w e p q k) (typed_sequence pca pcb (typed_branch l pcp pcq te tp tq lp lq hp hq) tk ha hk) =
      and_from _ _ (passes_from (raised labels x g e) pcp (raised_under pcp te (under_trans ok u (under_trans ok ha hp)) lp) p tp)
      (and_from _ _ (passes_from (raised labels x g e) pcq (raised_under pcq te (under_trans ok u (under_trans ok ha hq)) lq) q tq)
      (passes_from g pcb (under_trans ok u hk) k tk))
  passes_from g pc u (repeat e p k) (typed_sequence pca pcb (typed_while l pcp te tp lp hp) tk ha hk) =
      and_from _ _ (passes_from (raised labels x g e) pcp (raised_under pcp te (under_trans ok u (under_trans ok ha hp)) lp) p tp)
      (passes_from g pcb (under_trans ok u hk) k tk)

module _ {labels : Labels} (ok : Lawful labels) where
  passed_typed : (p : Tree) → passes_all labels p ≡ true → Typed labels p
  passed_typed [] t = typed_none
  passed_typed (h ∷ p) t =
      let parts = and_parts _ _ t in
      let c = labels.of_channel h.channel in
      let hc = ok.channels h.channel in
      typed_handler (typed_from ok c hc c hc h.body parts.0) (passed_typed p parts.1)

  typed_passed : (p : Tree) → Typed labels p → passes_all labels p ≡ true
  typed_passed [] t = refl
  typed_passed (h ∷ p) (typed_handler t ts) =
      let c = labels.of_channel h.channel in
      let hc = ok.channels h.channel in
      and_from _ _ (passes_from ok c hc c c (under_self ok hc) h.body t) (typed_passed p ts)

pub passing_is_typing : PassingIsTyping
passing_is_typing labels ok p = (passed_typed ok p, typed_passed ok p)

-- A scan of a program's lines finds it again. Assumes nothing.
use Rattle.std.proofs.Common.{◌≡◌, ℕ, ◌-◌, Bool, true, false, List, [], ◌∷◌, ◌++◌, sym, refl, ap, ◌∙◌, append_assoc}
use Rattle.std.specs.List.{AllByRecursion}
use Rattle.language.specs.Block.{Block, done, skip, assign, output, branch, repeat, ◌⨟◌, Tree}
use Rattle.language.specs.Expression.{Expr}
use Rattle.program.specs.Lines.{Line}
use Rattle.program.specs.Trees.{Frame, whole, parted, prefixed, branched, repeated, halved, frames, here, program_of}
use Rattle.program.specs.Writing.{else_line, close_line, block_lines, lines_of, FitBlock, FitHandler}
use Rattle.program.proofs.Spelling.{expression_of_its_terms}

before_done : (b : Block) → b ⨟ done ≡ b
before_done done = refl
before_done (skip k) = ap skip (before_done k)
before_done (assign v e k) = ap (assign v e) (before_done k)
before_done (output c e k) = ap (output c e) (before_done k)
before_done (branch w e p q k) = ap (branch w e p q) (before_done k)
before_done (repeat e p k) = ap (repeat e p) (before_done k)

-- a block in front of what is left of one
abbrev joined : Block → Frame → Frame
joined b (whole k) = whole (b ⨟ k)
joined b (parted k q) = parted (b ⨟ k) q

joined_done : (f : Frame) → joined done f ≡ f
joined_done (whole k) = refl
joined_done (parted k q) = refl

skip_joined : (k : Block) (f : Frame) (fs : List Frame) → prefixed skip (joined k f ∷ fs) ≡ joined (skip k) f ∷ fs
skip_joined k (whole x) fs = refl
skip_joined k (parted x q) fs = refl

assign_joined : (v : ℕ) (e : Expr) (k : Block) (f : Frame) (fs : List Frame) → prefixed (assign v e) (joined k f ∷ fs) ≡ joined (assign v e k) f ∷ fs
assign_joined v e k (whole x) fs = refl
assign_joined v e k (parted x q) fs = refl

output_joined : (c : ℕ) (e : Expr) (k : Block) (f : Frame) (fs : List Frame) → prefixed (output c e) (joined k f ∷ fs) ≡ joined (output c e k) f ∷ fs
output_joined c e k (whole x) fs = refl
output_joined c e k (parted x q) fs = refl

branch_joined : (w : Bool) (e : Expr) (p q k : Block) (f : Frame) (fs : List Frame) → prefixed (branch w e p q) (joined k f ∷ fs) ≡ joined (branch w e p q k) f ∷ fs
branch_joined w e p q k (whole x) fs = refl
branch_joined w e p q k (parted x y) fs = refl

repeat_joined : (e : Expr) (p k : Block) (f : Frame) (fs : List Frame) → prefixed (repeat e p) (joined k f ∷ fs) ≡ joined (repeat e p k) f ∷ fs
repeat_joined e p k (whole x) fs = refl
repeat_joined e p k (parted x q) fs = refl

-- the frames before a block's lines
block_frames : (d : ℕ) (b : Block) → FitBlock d b → (ls : List Line) (f : Frame) (fs : List Frame) → frames ls ≡ f ∷ fs → frames (block_lines b ++ ls) ≡ joined b f ∷ fs
block_frames d done fit ls f fs h = h ∙ ap (λ x. x ∷ fs) (sym (joined_done f))
block_frames d (skip k) fit ls f fs h = ap (prefixed skip) (block_frames d k fit ls f fs h) ∙ skip_joined k f fs
block_frames d (assign v e k) fit ls f fs h =
    ap (λ x. prefixed (assign v x) (frames (block_lines k ++ ls))) (expression_of_its_terms e)
    ∙ ap (prefixed (assign v e)) (block_frames d k fit.2 ls f fs h)
    ∙ assign_joined v e k f fs
block_frames d (output c e k) fit ls f fs h =
    ap (λ x. prefixed (output c x) (frames (block_lines k ++ ls))) (expression_of_its_terms e)
    ∙ ap (prefixed (output c e)) (block_frames d k fit.3 ls f fs h)
    ∙ output_joined c e k f fs
block_frames d (branch true e p q k) fit ls f fs h =
    let last = block_lines k ++ ls in
    let second = block_frames (d - 1) q fit.3 (close_line ∷ last) (whole done) (joined k f ∷ fs) (ap (λ x. whole done ∷ x) (block_frames d k fit.5 ls f fs h)) ∙ ap (λ x. whole x ∷ joined k f ∷ fs) (before_done q) in
    let first = block_frames (d - 1) p fit.2 (else_line ∷ (block_lines q ++ close_line ∷ last)) (parted done q) (joined k f ∷ fs) (ap halved second) ∙ ap (λ x. parted x q ∷ joined k f ∷ fs) (before_done p) in
    ap (λ x. branched x (frames ((block_lines p ++ else_line ∷ (block_lines q ++ close_line ∷ block_lines k)) ++ ls))) (expression_of_its_terms e)
    ∙ ap (λ x. branched e (frames x)) (append_assoc (block_lines p) (else_line ∷ (block_lines q ++ close_line ∷ block_lines k)) ls)
    ∙ ap (λ x. branched e (frames (block_lines p ++ else_line ∷ x))) (append_assoc (block_lines q) (close_line ∷ block_lines k) ls)
    ∙ ap (branched e) first
    ∙ branch_joined true e p q k f fs
block_frames d (branch false e p q k) fit ls f fs h =
    let first = block_frames (d - 1) p fit.2 (close_line ∷ (block_lines k ++ ls)) (whole done) (joined k f ∷ fs) (ap (λ x. whole done ∷ x) (block_frames d k fit.5 ls f fs h)) ∙ ap (λ x. whole x ∷ joined k f ∷ fs) (before_done p) in
    ap (λ x. branched x (frames ((block_lines p ++ close_line ∷ block_lines k) ++ ls))) (expression_of_its_terms e)
    ∙ ap (λ x. branched e (frames x)) (append_assoc (block_lines p) (close_line ∷ block_lines k) ls)
    ∙ ap (branched e) first
    ∙ ap (λ x. prefixed (branch false e p x) (joined k f ∷ fs)) (sym fit.4)
    ∙ branch_joined false e p q k f fs
block_frames d (repeat e p k) fit ls f fs h =
    let first = block_frames (d - 1) p fit.2 (close_line ∷ (block_lines k ++ ls)) (whole done) (joined k f ∷ fs) (ap (λ x. whole done ∷ x) (block_frames d k fit.3 ls f fs h)) ∙ ap (λ x. whole x ∷ joined k f ∷ fs) (before_done p) in
    ap (λ x. repeated x (frames ((block_lines p ++ close_line ∷ block_lines k) ++ ls))) (expression_of_its_terms e)
    ∙ ap (λ x. repeated e (frames x)) (append_assoc (block_lines p) (close_line ∷ block_lines k) ls)
    ∙ ap (repeated e) first
    ∙ repeat_joined e p k f fs

-- no handler begins in a block
block_program : (b : Block) (ls : List Line) → program_of (block_lines b ++ ls) ≡ program_of ls
block_program done ls = refl
block_program (skip k) ls = block_program k ls
block_program (assign v e k) ls = block_program k ls
block_program (output c e k) ls = block_program k ls
block_program (branch true e p q k) ls =
    ap program_of (append_assoc (block_lines p) (else_line ∷ (block_lines q ++ close_line ∷ block_lines k)) ls)
    ∙ block_program p (else_line ∷ ((block_lines q ++ close_line ∷ block_lines k) ++ ls))
    ∙ ap program_of (append_assoc (block_lines q) (close_line ∷ block_lines k) ls)
    ∙ block_program q (close_line ∷ (block_lines k ++ ls))
    ∙ block_program k ls
block_program (branch false e p q k) ls =
    ap program_of (append_assoc (block_lines p) (close_line ∷ block_lines k) ls) ∙ block_program p (close_line ∷ (block_lines k ++ ls)) ∙ block_program k ls
block_program (repeat e p k) ls =
    ap program_of (append_assoc (block_lines p) (close_line ∷ block_lines k) ls) ∙ block_program p (close_line ∷ (block_lines k ++ ls)) ∙ block_program k ls

pub program_of_its_lines : (p : Tree) → AllByRecursion FitHandler p → program_of (lines_of p) ≡ p
program_of_its_lines [] fit = refl
program_of_its_lines (h ∷ hs) fit =
    let b = h.body in
    let body : here (frames (block_lines b ++ close_line ∷ lines_of hs)) ≡ b = ap here (block_frames 8 b fit.0.1 (close_line ∷ lines_of hs) (whole done) (frames (lines_of hs)) refl) ∙ before_done b in
    let others : program_of (block_lines b ++ close_line ∷ lines_of hs) ≡ hs = block_program b (close_line ∷ lines_of hs) ∙ program_of_its_lines hs fit.1 in
    ap (λ x. record { channel = h.channel; body = x } ∷ program_of (block_lines b ++ close_line ∷ lines_of hs)) body ∙ ap (λ x. h ∷ x) others

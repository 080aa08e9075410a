-- A body is its head, where it lives, and the part of the image: two writes, one after the other.
use Rattle.lists.proofs.Runs.{then_write}
use native.Mathlib.Omega.{arith}
use Prim.Native.Nat.{ℕ, ◌+◌, ◌≤◌}
use mathlib.Core.Path.{sym, ap, ◌∙◌}
use mathlib.Core.List.{List}
use lib.ListN.{length, length-append}
use Rattle.lists.proofs.Lists.{part_is}
use Rattle.lists.specs.Lists.{write_at}
use Rattle.cells.proofs.Heads.{body_is, part_size}
use Rattle.cells.specs.Writers.{new_head, part_of}
use Rattle.cells.proofs.bodies.write_body.Goals as goal

pub write_head-rest-requires : goal.write_head-rest-requires
write_head-rest-requires c =
    let a = c.args in
    let w = a.image.now in
    let d = a.out.now in
    let h : List ℕ = new_head a.head a.lives in
    let p = part_of w a.start a.len in
    let all = ap length (body_is w a.start a.len a.head a.lives) in
    let both = length-append h p in
    let z = part_size w a.start a.len c.requires.1 in
    let r : a.at + length h ≤ length d = omega arith in
    r

pub overflow_add-result : goal.overflow_add-result
overflow_add-result c =
    let a = c.args in
    let w = a.image.now in
    let d = a.out.now in
    let h : List ℕ = new_head a.head a.lives in
    let p = part_of w a.start a.len in
    let all = ap length (body_is w a.start a.len a.head a.lives) in
    let both = length-append h p in
    let z = part_size w a.start a.len c.requires.1 in
    omega (arith, c.write_head-rest.ensures.end)

pub returns : goal.returns
returns c =
    let a = c.args in
    let w = a.image.now in
    let d = a.out.now in
    let h : List ℕ = new_head a.head a.lives in
    let p = part_of w a.start a.len in
    let all = ap length (body_is w a.start a.len a.head a.lives) in
    let both = length-append h p in
    let z = part_size w a.start a.len c.requires.1 in
    let x = c.write_head-rest.ensures in
    let o = c.write_head-rest.new.out in
    let r = c.write_head-rest.result in
    record {
      words = c.write_at.ensures
          ∙ ap (λ (t : List ℕ). write_at o r t) (part_is w a.start a.len)
          ∙ then_write d a.at h o r p x (omega arith)
          ∙ ap (λ (t : List ℕ). write_at d a.at t) (sym (body_is w a.start a.len a.head a.lives));
      end = omega (arith, x.end);
    }

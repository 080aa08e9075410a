-- What a copy into a part of the buffer leaves is the write of the whole source.
use native.Mathlib.Omega.{arith}
use Prim.Native.Nat.{ℕ, ◌+◌, ◌-◌}
use mathlib.Core.Path.{◌≡◌, refl, ◌∙◌}
use mathlib.Core.List.{List}
use lib.ListN.{length}
use lib.Seq.{paste, take-length}
use Rattle.std.proofs.lemmas.Slice.{put_mid-paste}
use Rattle.lists.specs.Lists.{write_at}
use Rattle.printing.proofs.bytes.write_at.Goals as goal

whole : (d : List ℕ) (at : ℕ) (s : List ℕ) → paste d at s (length s) ≡ write_at d at s
unfolding write_at
whole d at s = rw take-length

pub returns : goal.returns
returns c =
    let a = c.args in
    let s = a.src.now in
    put_mid-paste a.at (a.at + length s - a.at) a.out.now _ s (length s) c.copy_from_slice.ensures.after (omega arith) refl ∙ whole a.out.now a.at s

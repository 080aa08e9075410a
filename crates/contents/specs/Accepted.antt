-- Accepted contents as facts: what a function that is handed checked contents may require. c is the front of a book of n words. Assumes nothing.
use Rattle.std.specs.Prelude.{ℕ, ◌+◌, ◌<◌, ◌≤◌, ◌≡◌, true, false, List, length}
use Rattle.rules.specs.Tables.{none_hold}
use Rattle.rules.specs.Image.{word}
use Rattle.rules.specs.Setting.{setting_check}
use Rattle.contents.specs.Settings.{limit_off, setting_in}
use Rattle.contents.specs.Contents.{front, pages_in, start_in}
use Rattle.contents.specs.Orders.{contents_order}

pub record Accepted (c : List ℕ) (n : ℕ) : Type 0 where
  pub passed : none_hold (contents_order c n) ≡ true
  pub long : 17 ≤ length c
  pub one : word c 0 ≡ 1
  pub yes_no : word c 4 ≤ 1
  pub lead_on : limit_off c 5 ≡ false
  pub ticks_on : limit_off c 11 ≡ false
  pub setting : setting_check (setting_in c) ≡ 0
  pub contents_in : front (pages_in c) ≤ length c
  pub after_contents : 0 < pages_in c → start_in c 0 ≡ front (pages_in c)
  pub rising : (i : ℕ) → 1 + i < pages_in c → start_in c i < start_in c (1 + i)
  pub starts_in : (i : ℕ) → i < pages_in c → start_in c i < n
  pub none_left : pages_in c ≡ 0 → n ≤ 17

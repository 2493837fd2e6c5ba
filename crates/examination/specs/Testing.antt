-- What the tests of a table and of a list take note of, entry by entry: steps of the register's code. What they come to is said of whole tables and lists in
-- `Table` and `Import` of `register`, and the promises of its calls cite those.
use Rattle.std.specs.Prelude.{Bool, false, ◌&&◌, ◌||◌, not, ℕ, ◌+◌, ◌-◌, eqb}
use Rattle.whole.specs.Choice.{if◌then◌otherwise◌}
use Rattle.entry.specs.declared.entry.Entry.{Entry}
use Rattle.examination.specs.declared.testing.Seen.{Seen}
use Rattle.examination.specs.declared.testing.Noted.{Noted}
use Rattle.entry.specs.Entry.{is_unknown, is_unsound, is_bad, is_free, clash}

abbrev pub nothing_seen : Seen
nothing_seen = record { bad = false; places = 0 }

-- With the entry at a place of the table; `first` is the first place with its number, another one where the thermometer is there twice.
abbrev pub seen : Seen → Entry → ℕ → ℕ → Seen
seen s e at first =
    if is_free e then record { bad = s.bad; places = s.places + 1 }
    otherwise record { bad = (s.bad || not (eqb first at)) || is_bad e.certificate; places = s.places }

abbrev pub nothing_noted : ℕ → Noted
nothing_noted places = record { unknown = false; unsound = false; unfit = false; clashing = false; short = false; left = places }

-- A new thermometer takes a place where one is left.
abbrev pub left_after : ℕ → Bool → ℕ
left_after left is_new = if is_new then left - 1 otherwise left

-- With the entry at a place of the list, `first` likewise, and what is held of its thermometer.
abbrev pub noted : Noted → Entry → ℕ → ℕ → Entry → Noted
noted s e at first held =
    record {
      unknown = s.unknown || is_unknown e.certificate;
      unsound = s.unsound || is_unsound e.certificate;
      unfit = (s.unfit || is_free e) || not (eqb first at);
      clashing = s.clashing || clash held e;
      short = s.short || (is_free held && eqb s.left 0);
      left = left_after s.left (is_free held);
    }

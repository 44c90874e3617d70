-- Which numbers are kept.
use Rattle.std.specs.Prelude.{◌≡◌, ℕ, ◌+◌, ◌*◌, ◌/◌, ◌%◌, ◌<◌, ◌≤◌, ◌⊎◌, List, [], Option, Some, None, length, get_or, slice_index, ◌==◌, if◌then◌else◌}
use Rattle.race_watch_pages.specs.declared.pages.WordPage.{WordPage}
use Rattle.race_watch_pages.specs.declared.pages.CellPage.{CellPage}
use Rattle.race_watch_pages.specs.declared.pages.PageAt.{PageAt}
use Rattle.race_watch_pages.specs.declared.pages.PageAt.TheVariants.{Words, Cells}
use Rattle.race_watch_pages.specs.declared.pages.Pages.{Pages}

abbrev pub blank_words : WordPage
blank_words = record { number = 0; split = None; values = [] }

abbrev pub blank_cells : CellPage
blank_cells = record { number = 0; values = [] }

-- the page that stands where this one would
abbrev pub page_of : Pages → ℕ → WordPage
page_of m p = get_or m.words.items (slice_index m.index.items p) blank_words

-- the number of a cell of a page in which each has its own
abbrev pub value_of_cells : CellPage → ℕ → ℕ
value_of_cells p c = if p.number == (c / 256) then slice_index p.values (c % 256) else 0

-- the number of a cell, by where those of its page stand
abbrev pub value_by : List CellPage → Option ℕ → List ℕ → ℕ → ℕ
value_by cells None values c = slice_index values (c % 256 / 4)
value_by cells (Some k) values c = value_of_cells (get_or cells k blank_cells) c

-- the number of a cell of a page
abbrev pub value_of : List CellPage → WordPage → ℕ → ℕ
value_of cells p c = if p.number == (c / 256) then value_by cells p.split p.values c else 0

-- the number of a cell
abbrev pub kept : Pages → ℕ → ℕ
kept m c = value_of m.cells.items (page_of m (c / 256)) c

-- how many pages there may be
abbrev pub size : Pages → ℕ
size m = m.size

-- the page stands there, with a number for four cells in a row
pub record StandsInWords (m : Pages) (p at : ℕ) : Type 0 where
  pub is : slice_index m.index.items p ≡ at
  pub within : at < length m.words.items
  pub number : (get_or m.words.items at blank_words).number ≡ p
  pub whole : (get_or m.words.items at blank_words).split ≡ None

-- the page is there, and the numbers of its cells stand there, one for each
pub record StandsInCells (m : Pages) (p at : ℕ) : Type 0 where
  pub listed : slice_index m.index.items p < length m.words.items
  pub number : (page_of m p).number ≡ p
  pub split : (page_of m p).split ≡ Some at
  pub within : at < length m.cells.items
  pub cells : (get_or m.cells.items at blank_cells).number ≡ p

abbrev pub StandsAt : Pages → ℕ → PageAt → Type 0
StandsAt m p (Words at) = StandsInWords m p at
StandsAt m p (Cells at) = StandsInCells m p at

-- the page is there
abbrev pub StandsBy : Pages → ℕ → Option ℕ → Type 0
StandsBy m p None = StandsInWords m p (slice_index m.index.items p)
StandsBy m p (Some at) = StandsInCells m p at

abbrev pub IsThere : Pages → ℕ → Type 0
IsThere m p = StandsBy m p (page_of m p).split

-- the page is there, with a number for each cell
abbrev pub IsSplit : Pages → ℕ → Type 0
IsSplit m p = (at : ℕ) × StandsInCells m p at

-- the cells from the first to before the last can be filled: the page of each has a number for each cell, or is there and
-- the four cells in a row that have one number are all among them
abbrev pub IsReady : Pages → ℕ → ℕ → Type 0
IsReady m from to = (c : ℕ) → from ≤ c → c < to →
    IsSplit m (c / 256) ⊎ (IsThere m (c / 256) × (from ≤ c / 4 * 4) × (c / 4 * 4 + 4 ≤ to))

-- What an image holds once it is read: the rows of its tables, with the texts and the blobs that stand in
-- them (ECMA-335 II.22, II.24.2.3 to II.24.2.5).
use Rattle.std.specs.Prelude.{ℕ, zero, suc, Bool, ◌&&◌, nat_le, List, [], length, slice_index_or}

-- what stands in a column of a row: a number, which an index of a row or into the GUID heap is too; the
-- UTF-16 units of a string; or the bytes of a blob
pub data Cell : Type 0 where
  Number : ℕ → Cell
  Text : List ℕ → Cell
  Bytes : List ℕ → Cell

pub record Module : Type 0 where
  -- the rows of each of the tables 00 to 2C, and in each row its columns from the left
  pub tables : List (List (List Cell))
  -- the bytes of the heap of user strings, and those of the GUID heap
  pub user_strings : List ℕ
  pub guids : List ℕ

-- the rows of a table
abbrev pub rows : Module → ℕ → List (List Cell)
rows m table = slice_index_or m.tables table []

-- how many rows a table has
abbrev pub count : Module → ℕ → ℕ
count m table = length (rows m table)

-- a row, counted from 1
abbrev pub row : Module → ℕ → ℕ → List Cell
row m table zero = []
row m table (suc before) = slice_index_or (rows m table) before []

-- there is such a row
abbrev pub has_row : Module → ℕ → ℕ → Bool
has_row m table n = nat_le 1 n && nat_le n (count m table)

-- what stands in a column, counted from 0, of a row; 0 where there is no such column or row
abbrev pub cell : Module → ℕ → ℕ → ℕ → Cell
cell m table n k = slice_index_or (row m table n) k (Number 0)

abbrev pub number_in : Cell → ℕ
number_in (Number value) = value
number_in (Text units) = 0
number_in (Bytes bytes) = 0

abbrev pub text_in : Cell → List ℕ
text_in (Number value) = []
text_in (Text units) = units
text_in (Bytes bytes) = []

abbrev pub blob_in : Cell → List ℕ
blob_in (Number value) = []
blob_in (Text units) = []
blob_in (Bytes bytes) = bytes

-- the number, the text and the blob that stands in a column of a row
abbrev pub number : Module → ℕ → ℕ → ℕ → ℕ
number m table n k = number_in (cell m table n k)

abbrev pub text : Module → ℕ → ℕ → ℕ → List ℕ
text m table n k = text_in (cell m table n k)

abbrev pub blob : Module → ℕ → ℕ → ℕ → List ℕ
blob m table n k = blob_in (cell m table n k)

-- Stream headers as the reader sees them (ECMA-335 II.24.2.2).
use Rattle.std.specs.Prelude.{◌≡◌, ℕ, ◌+◌, ◌≤◌, not, List, length, None, unwrap_or}
use Rattle.std.specs.List.{find}
use Rattle.meta_heaps.specs.declared.header.Header.{Header}
use Rattle.cli_words.specs.Span.{LiesIn}
use Rattle.meta_heaps.specs.Streams.{headers_at, headers, header_end, name_len, fits, stream_of}

-- the header at a place
abbrev pub header_of : List ℕ → ℕ → Header
header_of metadata at = record {
  at = at;
  end = header_end metadata at;
  name_len = unwrap_or (name_len metadata at) 0;
  stream = stream_of metadata at;
}

-- a header and its stream lie in metadata of this length
pub record LiesWhole (len : ℕ) (header : Header) : Type 0 where
  pub has_name : header.at + 8 + header.name_len ≤ len
  pub has_header : header.end ≤ len
  pub has_stream : LiesIn len header.stream

-- the root, the headers and the streams lie in the metadata
pub record IsSound (metadata : List ℕ) : Type 0 where
  pub root : headers_at metadata ≤ length metadata
  pub streams : find (λ at. not (fits metadata at)) (headers metadata) ≡ None

use Rattle.std.proofs.Common.{◌≡◌, ℕ, ◌+◌, ◌-◌, List, [], ◌++◌, length, refl, sym, ap, ◌∙◌, append_assoc}
use Rattle.std.specs.List.{flat_map}
use Rattle.image_maker.specs.Headers.{piece_bytes}
use Rattle.image_maker.specs.File.{round_up, file_headers, cli_header, text_bytes, file_bytes, bodies_address, zeros}
use Rattle.image_maker.proofs.LengthFile.{text_length}
use Rattle.image_maker.proofs.file.write_file.Goals as goal

-- parts that are put one after the other
regroup : (headers cli bodies metadata pad end : List ℕ)
    → ((((headers ++ cli) ++ bodies) ++ metadata) ++ pad) ++ end
    ≡ headers ++ (((cli ++ (bodies ++ metadata)) ++ pad) ++ end)
regroup headers cli bodies metadata pad end = simp append_assoc

spelled : (bodies metadata : List ℕ) (text size : ℕ) → text ≡ 72 + length bodies + length metadata
    → size ≡ round_up 512 text
    → ((((file_headers text ++ cli_header (bodies_address + length bodies) (length metadata)) ++ bodies) ++ metadata)
    ++ zeros (size - text)) ++ zeros 1024 ≡ file_bytes bodies metadata
spelled bodies metadata text size e f =
    regroup (file_headers text) (cli_header (bodies_address + length bodies) (length metadata)) bodies metadata
    (zeros (size - text)) (zeros 1024)
    ∙ ap (λ n. file_headers text ++ ((text_bytes bodies metadata ++ zeros (n - text)) ++ zeros 1024)) f
    ∙ ap (λ n. file_headers n ++ ((text_bytes bodies metadata ++ zeros (round_up 512 n - n)) ++ zeros 1024))
    (e ∙ sym (text_length bodies metadata))

module _ (headers cli bodies metadata pad end empty : List ℕ) (none : empty ≡ []) where
  -- the file so far, after each part
  module _ (one two three four five six first second : List ℕ) where
    whole : one ≡ empty ++ first → first ≡ headers → two ≡ one ++ second → second ≡ cli → three ≡ two ++ bodies
        → four ≡ three ++ metadata → five ≡ four ++ pad → six ≡ five ++ end
        → six ≡ ((((headers ++ cli) ++ bodies) ++ metadata) ++ pad) ++ end
    whole a b d e f g h i = cc

-- src/file.rt:149:1
pub returns : goal.returns
returns c =
    whole (file_headers _) (cli_header _ _) c.args.bodies.now c.args.metadata.now (zeros _) (zeros 1024)
    c.new-file.result.items c.new-file.ensures.items c.put_pieces.new.file.items c.put_pieces-2.new.file.items
    c.extend_from_slice.new.self.items c.extend_from_slice-2.new.self.items c.put_zeros.new.file.items
    c.put_zeros-2.new.file.items (flat_map piece_bytes c.headers.result) (flat_map piece_bytes c.cli_header.result)
    c.in_ok-put_pieces.ensures c.headers.ensures c.in_ok-put_pieces-2.ensures c.cli_header.ensures
    c.in_ok-extend_from_slice.ensures.items c.in_ok-extend_from_slice-2.ensures.items
    c.in_ok-put_zeros.ensures c.in_ok-put_zeros-2.ensures
    ∙ spelled c.args.bodies.now c.args.metadata.now _ c.round_up.result refl c.round_up.ensures

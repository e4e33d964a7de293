use Rattle.std.proofs.Common.{◌≡◌, ◌≤◌, length, ◌+◌, ◌*◌, ap, ◌∙◌, subst, arith}
use Rattle.fw_base.specs.Places.{place_index}
use Rattle.fw_directory.specs.Directories.{PlainDirectory, IsDirectory}
use Rattle.fw_directory.proofs.Bounds.{digest_inside}
use Rattle.fw_directory.proofs.directory.Directory.row.Goals as goal

-- the place's digest is within the directory
pub slice_bounds-copy_from_slice-end-2 : goal.slice_bounds-copy_from_slice-end-2
slice_bounds-copy_from_slice-end-2 c =
    let whole : IsDirectory c.args.self.now = subst IsDirectory c.self.view_is c.self.invariant in
    let index : c.place_index.result ≡ place_index c.args.self.now.params c.args.place.now = c.place_index.ensures.value ∙ ap (λ (d : PlainDirectory). place_index d.params c.args.place.now) c.self.view_is in
    let all : length c.items.result.now ≡ length c.args.self.now.digests = ap length (c.items.ensures ∙ ap (λ (d : PlainDirectory). d.digests) c.self.view_is) in
    let inside : 32 * place_index c.args.self.now.params c.args.place.now + 32 ≤ length c.args.self.now.digests = digest_inside c.args.self.now c.args.place.now whole c.requires in
    omega (arith, inside, index, all)
